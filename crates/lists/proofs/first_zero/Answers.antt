-- `lists::first_zero` meets its contract: the first entry that `position` lets pass is the first 0.
use Rattle.std.proofs.Common.{rules, tests, take, ◌≡◌, ◌≢◌}
use Rattle.std.proofs.lemmas.Iterator.{YieldsList-from_slice, IsFirst-from_position}
use Rattle.lists.proofs.Places.{least-first}
use Rattle.lists.proofs.first_zero.Goals as goal

pub returns : goal.returns
returns c =
    least-first (λ x. x ≡ 0) (λ x. x ≢ 0) _ c.requires (λ k e. e) (λ k ne. ne) _
    (IsFirst-from_position _ _ _ (λ x. x ≡ 0) (λ x. x ≢ 0) c.position.ensures.ran
    (YieldsList-from_slice (take c.args.n c.args.s.now) (search rules))
    (λ x q k. search (rules, tests))
    (λ x q k. search (rules, tests)))
