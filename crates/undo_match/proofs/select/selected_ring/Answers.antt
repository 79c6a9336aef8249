-- `undo_match::select::selected_ring` meets its contract: each link of a triangle is a half-edge, whose triangle's rank is
-- not above its number, and the place of a marked triangle's links is that of its rank.
use Prim.Native.Nat.{ℕ, ◌*◌, ◌/◌, ◌≤◌, ◌<◌}
use native.Mathlib.Omega.{arith}
use mathlib.Core.Path.{◌∙◌}
use mathlib.Core.List.{List}
use Rattle.theory.specs.Mesh.{at}
use Rattle.theory.proofs.Counting.{count-le}
use Rattle.lists.specs.Marks.{marked}
use Rattle.undo_match.specs.Runs.{three_of, RunsLent, RunsStored}
use Rattle.undo_match.specs.Selected.{selected_half, HalfLent, LinksLent, RingLent, RingSelected}
use Rattle.undo_match.proofs.Runs.{at-three_of}
use Rattle.undo_match.proofs.select.selected_ring.Goals as goal

module _ {F : ℕ} {ring marks rank out₀ : List ℕ} (L : RingLent F ring marks rank out₀) where
  -- what `selected_half` requires
  half-lendable : (h : ℕ) → h < 3 * F → HalfLent h rank
  half-lendable h l =
      let b : h / 3 < F = omega arith in
      let small : at rank (h / 3) ≤ h / 3 = omega (arith, L.ranked (h / 3) b, count-le (marked marks) (h / 3)) in
      record { rank_room = omega (arith, L.rank_room); small = omega (arith, L.small) }

  -- so each triangle's links can be written
  links-lendable : RunsLent 3 (λ k. LinksLent k ring rank) F marks out₀
  links-lendable =
      record {
        marks_room = L.marks_room;
        out_room = omega (arith, L.out_room, count-le (marked marks) F);
        each = λ k l. record {
          ring_room = omega (arith, L.ring_room);
          halves = λ h a b. half-lendable (at ring h) (L.within h (omega arith));
        };
      }

  -- and stand at the places of the ranks
  stored-selected : {out : List ℕ} {total : ℕ}
      → RunsStored 3 (three_of (λ h. selected_half rank (at ring h))) F marks total out
      → RingSelected F ring marks rank out
  stored-selected S =
      record {
        entry = λ k i b m s.
            rw (L.ranked k b) (S.entry k i b m s ∙ at-three_of (λ h. selected_half rank (at ring h)) k i s);
      }

pub write_marked-requires : goal.write_marked-requires
write_marked-requires c = links-lendable c.requires

pub returns : goal.returns
returns c = stored-selected c.requires c.write_marked.ensures
