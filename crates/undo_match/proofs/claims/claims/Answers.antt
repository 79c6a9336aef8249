-- `undo_match::claims::claims` meets its contract: the entries of the runs that are stored are the claims.
use Prim.Native.Nat.{ℕ, zero, suc, ◌+◌, ◌*◌, ◌/◌, ◌%◌, ◌<◌}
use native.Mathlib.Nat.{add-zero}
use native.Mathlib.Omega.{arith}
use mathlib.Core.Path.{◌≡◌, ◌∙◌, refl}
use mathlib.Core.List.{List}
use Rattle.theory.specs.Mesh.{at}
use Rattle.undo_match.specs.Runs.{RunsStored}
use Rattle.undo_match.specs.Claims.{Claimed, claims_of}
use Rattle.undo_match.proofs.claims.claims.Goals as goal

-- after a triangle itself stands for each corner the triangle across the edge that ends there
claims_of-corner : (other : List ℕ) (k i : ℕ) → i < 3
    → at (claims_of other k) (suc i) ≡ at other (3 * k + (i + 2) % 3) / 3
claims_of-corner other k zero b = refl
claims_of-corner other k (suc zero) b = rw add-zero
claims_of-corner other k (suc (suc zero)) b = refl
claims_of-corner other k (suc (suc (suc i))) b = absurd (omega arith)

-- so the entries are the claims
stored-claimed : {F : ℕ} {marks other out : List ℕ} {total : ℕ} → RunsStored 4 (claims_of other) F marks total out
    → Claimed F marks other out
stored-claimed {other = other} S =
    record {
      centre = λ k b m. rw add-zero at (S.entry k 0 b m (omega arith));
      corner = λ k i b m s. S.entry k (suc i) b m (omega arith) ∙ claims_of-corner other k i s;
    }

pub returns : goal.returns
returns c = stored-claimed c.write_marked.ensures
