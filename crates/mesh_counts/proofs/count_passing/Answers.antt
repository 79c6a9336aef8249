-- `mesh_counts::count_passing` meets its contract: each turn counts one more where it passes.
use Rattle.std.proofs.Common.{◌≡◌, ℕ, ◌+◌, Bool, true, false, List, refl, sym, arith, ◌<◌, length-take-le, get_or-take}
use Rattle.std.specs.Int.{from_bool}
use Rattle.theory.specs.Counting.{count}
use Rattle.theory.specs.Mesh.{at}
use Rattle.theory.proofs.Counting.{count-passes, count-fails}
use Rattle.mesh_counts.specs.Counts.{PassingOf}
use Rattle.mesh_counts.proofs.count_passing.Goals as goal

module _ {answer : ℕ → ℕ → Bool → Type 0} (ring : List ℕ) where
  -- none at first
  begun : PassingOf answer 0 ring 0
  unfolding count
  begun = record { few = omega arith; passing = λ test says. refl }

  -- one turn
  turned : {h c d : ℕ} (b : Bool) → answer (at ring h) h b → d ≡ from_bool b → PassingOf answer h ring c
      → PassingOf answer (h + 1) ring (c + d)
  turned {h} true met e P = record {
    few = omega (arith, P.few);
    passing = λ test says.
        omega (
          arith,
          P.passing test (λ g b l. says g b (omega arith)),
          count-passes test h (sym (says h true (omega arith) met)),
        );
  }
  turned {h} false met e P = record {
    few = omega (arith, P.few);
    passing = λ test says.
        omega (
          arith,
          P.passing test (λ g b l. says g b (omega arith)),
          count-fails test h (sym (says h false (omega arith) met)),
        );
  }

pub loop-h-init : goal.loop-h-init
loop-h-init g c = begun _

pub loop-h-preserved : goal.loop-h-preserved
loop-h-preserved g c =
    let below : c.loop-h.h < c.args.halves = omega (arith, length-take-le c.args.halves c.args.ring.now c.requires.lent.room) in
    turned _ _ (rw get_or-take at c.passes.ensures) c.from-count.ensures c.loop-h.invariant
