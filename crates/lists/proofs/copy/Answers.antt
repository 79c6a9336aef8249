-- `lists::copy` meets its contract.
use native.Mathlib.Omega.{arith}
use native.Mathlib.Numerals.{add-one}
use native.Mathlib.Nat.{zero-add}
use Prim.Native.Nat.{ℕ, ◌+◌, ◌<◌}
use mathlib.Core.Path.{◌≡◌, ◌∙◌, ap}
use mathlib.Core.List.{List, ◌++◌}
use lib.ListN.{length, set, take, drop}
use lib.Seq.{paste-suc}
use Rattle.theory.specs.Mesh.{at}
use Rattle.lists.proofs.copy.Goals as goal

-- one more entry is copied
turned : (from to₀ : List ℕ) {to : List ℕ} {i : ℕ} → i < length from → i < length to₀ → to ≡ take i from ++ drop i to₀
    → set to i (at from i) ≡ take (i + 1) from ++ drop (i + 1) to₀
turned from to₀ {to} {i} l m copied =
    rw (copied, add-one) (simp zero-add at (paste-suc to₀ 0 from i 0 (omega arith) (omega arith)))

pub loop-i-preserved : goal.loop-i-preserved
loop-i-preserved c = turned _ _ (omega arith) (omega arith) c.loop-i.invariant

pub returns : goal.returns
returns c = let e : c.loop-i.i ≡ c.args.n = omega (arith, c.loop-i.auto.i-end, c.loop-i-test.false) in
    c.loop-i.invariant ∙ ap (λ k. take k c.args.from.now ++ drop k c.args.to.now) e
