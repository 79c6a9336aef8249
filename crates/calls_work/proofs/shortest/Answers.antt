-- `calls_work::shortest` meets its contract: the least so far is held against each number in turn.
use Prim.Native.Nat.{ℕ, min}
use native.Mathlib.Omega.{arith}
use mathlib.Core.Path.{◌≡◌, ◌∙◌, refl}
use mathlib.Core.List.{List, [], ◌∷◌}
use Rattle.std.proofs.Common.{rules}
use Rattle.std.specs.List.{fold}
use Rattle.theory.proofs.Refusals.{least}
use Rattle.calls_work.proofs.shortest.Goals as goal

-- the first two may be held against each other first
least-first : (a b : ℕ) (cs : List ℕ) → least (min a b) cs ≡ least a (b ∷ cs)
least-first a b [] = refl
least-first a b (c ∷ cs) = omega arith

-- one number after the other
fold-least : (a : ℕ) (bs : List ℕ) → fold (λ x y. min x y) a bs ≡ least a bs
fold-least a [] = refl
fold-least a (b ∷ bs) = fold-least (min a b) bs ∙ least-first a b bs

pub returns : goal.returns
returns c =
    let e : c.fold.result ≡ fold (λ x y. min x y) c.args.first c.args.others.now = search rules in
    e ∙ fold-least c.args.first c.args.others.now
