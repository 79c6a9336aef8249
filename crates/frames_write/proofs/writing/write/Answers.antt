-- `frames_write::writing::write` meets its contract: the frames, put at the front.
use native.Mathlib.Omega.{arith}
use Prim.Native.Nat.{ℕ, ◌+◌, ◌*◌, ◌≤◌}
use mathlib.Core.List.{List}
use lib.ListN.{length}
use Rattle.theory.specs.Mesh.{triangles}
use Rattle.theory.specs.Frames.{frames}
use Rattle.theory.proofs.Frames.{frames-length}
use Rattle.frames_write.proofs.Appends.{front-room, put_written}
use Rattle.frames_write.proofs.writing.write.Goals as goal

-- how long they are
fits : (N : ℕ) (T : List ℕ) {room : ℕ} → 11 + 15 * triangles T ≤ room → length (frames N T) ≤ room
fits N T l = omega (arith, frames-length N T)

pub put_frames-requires : goal.put_frames-requires
put_frames-requires c =
    let new = c.new-writer.ensures in
    front-room new.untouched new.front (fits _ _ c.requires)

pub returns : goal.returns
returns c =
    let new = c.new-writer.ensures in
    let e = put_written c.put_frames.ensures new.untouched new.front (fits _ _ c.requires) in
    grind (arith, e)
