-- The arithmetic of the corners 3k, 3k + 1, 3k + 2 of a triangle, and room.
use Prim.Native.Nat.{ℕ, ◌+◌, ◌*◌, ◌≤◌}
use native.Mathlib.Omega.{arith}
use mathlib.Core.Path.{◌≡◌, ap}
use mathlib.Core.List.{List}
use lib.ListN.{length}
use Rattle.theory.specs.Mesh.{at}
use Rattle.theory.specs.Splitting.{next}
use Rattle.mesh_rings.specs.Tables.{third, Work}

-- ---- the corners of a triangle

-- the corner after each
pub next-first : (k : ℕ) → next (3 * k) ≡ 3 * k + 1
next-first k = omega arith

pub next-second : (k : ℕ) → next (3 * k + 1) ≡ 3 * k + 2
next-second k = omega arith

pub next_last : (k : ℕ) → next (3 * k + 2) ≡ 3 * k
next_last k = omega arith

module _ (T : List ℕ) (k : ℕ) where
  -- the vertex at the corner that each half-edge does not touch
  pub third-first : third T (3 * k) ≡ at T (3 * k + 2)
  third-first = ap (at T) (omega arith)

  pub third-second : third T (3 * k + 1) ≡ at T (3 * k)
  third-second = ap (at T) (omega arith)

  pub third_last : third T (3 * k + 2) ≡ at T (3 * k + 1)
  third_last = ap (at T) (omega arith)

-- ---- room

-- a buffer that keeps its length has room for a mesh that is not larger
pub work-kept : {N F M n : ℕ} {buffer buffer' : List ℕ} → M + 3 * n ≤ N + 3 * F → Work N F buffer
    → length buffer' ≡ length buffer → Work M n buffer'
work-kept l W e = record { room = omega (arith, W.room) }
