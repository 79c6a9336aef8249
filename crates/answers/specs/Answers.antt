-- The code's answers and buffers as the documents'.
use Rattle.std.specs.Prelude.{ℕ, List}
use Rattle.theory.specs.Calls as promise
use Rattle.theory.specs.Frames as frames
use Rattle.theory.specs.Index as index
use Rattle.answers.specs.declared.answers.Answer.{Answer}
use Rattle.answers.specs.declared.answers.OneAnswer.{OneAnswer}
use Rattle.answers.specs.declared.answers.SeveralAnswer.{SeveralAnswer}
use Rattle.answers.specs.declared.answers.FramesAnswer.{FramesAnswer}
use Rattle.answers.specs.declared.answers.TextAnswer.{TextAnswer}

-- The six numbers that the answers of split and of the undos begin with.
abbrev pub numbers : (refusal place vertices triangles edges boundary : ℕ) → promise.Answer
numbers refusal place vertices triangles edges boundary = record {
  refusal = refusal;
  place = place;
  vertices = vertices;
  triangles = triangles;
  edges = edges;
  boundary_edges = boundary;
}

-- The answer of split.
abbrev pub answer_of : Answer → promise.Answer
answer_of a =
    numbers a.refusal a.place a.vertices a.triangles a.edges a.boundary_edges

-- The answer of undo one.
abbrev pub one_answer_of : OneAnswer → promise.OneAnswer
one_answer_of a = record {
  common = numbers a.refusal a.place a.vertices a.triangles a.edges a.boundary_edges;
  role = a.role;
}

-- The answer of undo several.
abbrev pub several_answer_of : SeveralAnswer → promise.SeveralAnswer
several_answer_of a = record {
  common = numbers a.refusal a.place a.vertices a.triangles a.edges a.boundary_edges;
  levels = a.levels;
  roles = a.roles;
}

-- The answer of read frames, of write frames and of read index.
abbrev pub frames_answer_of : FramesAnswer → frames.FramesAnswer
frames_answer_of a = record { refusal = a.refusal; place = a.place; vertices = a.vertices; triangles = a.triangles }

-- The answer of write index.
abbrev pub text_answer_of : TextAnswer → index.TextAnswer
text_answer_of a = record {
  common = record { refusal = a.refusal; place = a.place; vertices = a.vertices; triangles = a.triangles };
  bytes = a.bytes;
}

-- The three output buffers of undo one.
abbrev pub outputs : List ℕ → List ℕ → List ℕ → promise.Outputs
outputs mesh vertex_map triangle_map = record { mesh = mesh; vertex_map = vertex_map; triangle_map = triangle_map }
