-- What each call answers, by what it came to: what it found, or the refusal with its number and place.
use Rattle.std.specs.Prelude.{Result, Ok, Err}
use Rattle.theory.specs.Calls as promise
use Rattle.theory.specs.Frames as frames
use Rattle.theory.specs.Index as index
use Rattle.limits.specs.declared.refusal.Refusal.{Refusal}
use Rattle.limits.specs.Numbers.{number_of, place_of}
use Rattle.answers.specs.declared.counts.Counts.{Counts}
use Rattle.answers.specs.declared.counts.Size.{Size}
use Rattle.answers.specs.declared.counts.Text.{Text}
use Rattle.answers.specs.declared.levels.Levels.{Levels}
use Rattle.answers.specs.declared.taken.Undone.{Undone}
use Rattle.answers.specs.Counts.{accepted_counts}
use Rattle.answers.specs.Taken.{answer_to_reading}
use Rattle.answers.specs.Levels.{answer_to_levels}

-- What split answers.
abbrev pub said : Result Counts Refusal → promise.Answer
said (Ok counts) = accepted_counts counts
said (Err refusal) = promise.refusal (number_of refusal) (place_of refusal)

-- What undo one answers.
abbrev pub one_said : Result Undone Refusal → promise.OneAnswer
one_said (Ok undone) = answer_to_reading undone.role undone.counts
one_said (Err refusal) = promise.one_refusal (number_of refusal) (place_of refusal)

-- What undo several answers.
abbrev pub several_said : Result Levels Refusal → promise.SeveralAnswer
several_said (Ok undone) = answer_to_levels undone
several_said (Err refusal) = promise.several_refusal (number_of refusal) (place_of refusal)

-- What read frames, write frames and read index answer.
abbrev pub frames_said : Result Size Refusal → frames.FramesAnswer
frames_said (Ok size) = frames.frames_accepted size.vertices size.triangles
frames_said (Err refusal) = frames.frames_refusal (number_of refusal) (place_of refusal)

-- What write index answers.
abbrev pub text_said : Result Text Refusal → index.TextAnswer
text_said (Ok text) = index.text_accepted text.size.vertices text.size.triangles text.bytes
text_said (Err refusal) = index.text_refusal (number_of refusal) (place_of refusal)
