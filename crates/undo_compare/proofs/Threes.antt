-- Three vertices, rotated: each is followed by what follows it in the others. Different vertices are the same if they are
-- rotated in the one turning or in the other. A triangle's vertices are the three at its corners.
use Prim.Native.Nat.{ℕ, ◌+◌, ◌*◌, ◌%◌, ◌≤◌, ◌<◌}
use native.Mathlib.Omega.{arith}
use mathlib.Core.Path.{◌≡◌, ◌∙◌, refl, sym, ap, subst}
use mathlib.Core.List.{List}
use lib.ListN.{length}
use Rattle.theory.specs.Mesh.{at, On, Same, Rotated}
use Rattle.theory.proofs.Splitting.{by_three}
use Rattle.lists.proofs.Lists.{by-eq}
use Rattle.undo_compare.specs.Compared.{Apart, OneOf, first, second, third, SameThree}
use Rattle.undo_compare.specs.Compared.{RotatedThree, never, once, twice}
use Rattle.undo_compare.specs.Compared.{Follows, after_first, after_second, after_last}

-- ---- rotated vertices

-- rotated vertices are equal one by one, from one of the three on
rotated-cases : {a b c x y z : ℕ} {A : Type 0} → RotatedThree a b c x y z → (a ≡ x → b ≡ y → c ≡ z → A)
    → (a ≡ y → b ≡ z → c ≡ x → A) → (a ≡ z → b ≡ x → c ≡ y → A) → A
rotated-cases never here next last = here refl refl refl
rotated-cases once here next last = last refl refl refl
rotated-cases twice here next last = next refl refl refl

-- and such vertices are rotated
rotated-here : {a b c x y z : ℕ} → a ≡ x → b ≡ y → c ≡ z → RotatedThree a b c x y z
rotated-here e f g = rw (e, f, g) never

rotated-next : {a b c x y z : ℕ} → a ≡ y → b ≡ z → c ≡ x → RotatedThree a b c x y z
rotated-next e f g = rw (e, f, g) twice

rotated-last : {a b c x y z : ℕ} → a ≡ z → b ≡ x → c ≡ y → RotatedThree a b c x y z
rotated-last e f g = rw (e, f, g) once

-- the first may be put last
pub rotated-on : {a b c x y z : ℕ} → RotatedThree a b c x y z → RotatedThree b c a x y z
rotated-on never = twice
rotated-on once = never
rotated-on twice = once

module _ {x y z : ℕ} (d : Apart x y z) where
  -- after each of three different vertices comes the next
  follows-first : {v w : ℕ} → v ≡ x → Follows v x y z w → w ≡ y
  follows-first e (after_first _) = refl
  follows-first e (after_second n _) = absurd (n e)
  follows-first e (after_last n _) = absurd (n e)

  follows-second : {v w : ℕ} → v ≡ y → Follows v x y z w → w ≡ z
  follows-second e (after_first f) = absurd (d.xy (sym f ∙ e))
  follows-second e (after_second _ _) = refl
  follows-second e (after_last _ n) = absurd (n e)

  follows-last : {v w : ℕ} → v ≡ z → Follows v x y z w → w ≡ x
  follows-last e (after_first f) = absurd (d.zx (sym e ∙ f))
  follows-last e (after_second _ f) = absurd (d.yz (sym f ∙ e))
  follows-last e (after_last _ _) = refl

  -- so of rotated ones the second is what follows the first
  pub rotated-follower : {a b c w : ℕ} → RotatedThree a b c x y z → Follows a x y z w → b ≡ w
  rotated-follower o F = rotated-cases o (λ e f _. f ∙ sym (follows-first e F)) (λ e f _. f ∙ sym (follows-second e F))
      (λ e f _. f ∙ sym (follows-last e F))

  -- and three of which each is what follows the one before are rotated
  pub followers-rotated : {a b c p q r : ℕ} → Follows a x y z p → Follows b x y z q → Follows c x y z r → b ≡ p → c ≡ q
      → a ≡ r → RotatedThree a b c x y z
  followers-rotated (after_first e) B C f g h = rotated-here e f (g ∙ follows-second f B)
  followers-rotated (after_second _ e) B C f g h = rotated-next e f (g ∙ follows-last f B)
  followers-rotated (after_last _ _) B C f g h =
      let last = g ∙ follows-first f B in rotated-last (h ∙ follows-second last C) f last

-- ---- the same vertices

-- of three vertices the first may be put last, and the last two may be swapped
one-round : {a b c v : ℕ} → OneOf a b c v → OneOf b c a v
one-round first = third
one-round second = first
one-round third = second

one-swapped : {a b c v : ℕ} → OneOf a b c v → OneOf a c b v
one-swapped first = first
one-swapped second = third
one-swapped third = second

-- so rotated vertices are the same
pub rotated-same : {a b c x y z : ℕ} → RotatedThree a b c x y z → SameThree a b c x y z
rotated-same never = record { there = λ v o. o; back = λ v o. o }
rotated-same once = record { there = λ v o. one-round o; back = λ v o. one-round (one-round o) }
rotated-same twice = record { there = λ v o. one-round (one-round o); back = λ v o. one-round o }

-- and so are vertices that are rotated in the other turning
pub reversed-same : {a b c x y z : ℕ} → RotatedThree a c b x y z → SameThree a b c x y z
reversed-same o =
    let same = rotated-same o in
    record { there = λ v p. same.there v (one-swapped p); back = λ v p. one-swapped (same.back v p) }

-- different vertices stay different as the first is put last, and what is rotated stays so
apart-round : {x y z : ℕ} → Apart x y z → Apart y z x
apart-round d = record { xy = d.yz; yz = d.zx; zx = d.xy }

rotated-round : {a b c x y z : ℕ} → RotatedThree a b c y z x → RotatedThree a b c x y z
rotated-round never = twice
rotated-round once = never
rotated-round twice = once

-- three different vertices that begin as three others do, and are among these, are these or have the last two swapped
first_alike : {a b c y z : ℕ} → Apart a y z → OneOf a b c y → OneOf a b c z → (RotatedThree a b c a y z → ⊥)
    → RotatedThree a c b a y z
first_alike d first q n = absurd (d.xy refl)
first_alike d second first n = absurd (d.zx refl)
first_alike d second second n = absurd (d.yz refl)
first_alike d second third n = absurd (n never)
first_alike d third first n = absurd (d.zx refl)
first_alike d third second n = never
first_alike d third third n = absurd (d.yz refl)

-- so the same vertices, if they are different and not rotated, are rotated in the other turning
pub same-reversed : {a b c x y z : ℕ} → Apart x y z → SameThree a b c x y z → (RotatedThree a b c x y z → ⊥)
    → RotatedThree a c b x y z
same-reversed d same n = begun d (same.there _ first) (same.back _ first) (same.back _ second) (same.back _ third) n
  where
    begun : {a b c x y z : ℕ} → Apart x y z → OneOf x y z a → OneOf a b c x → OneOf a b c y → OneOf a b c z
        → (RotatedThree a b c x y z → ⊥) → RotatedThree a c b x y z
    begun d first o p q n = first_alike d p q n
    begun d second o p q n = rotated-round (first_alike (apart-round d) q o (λ r. n (rotated-round r)))
    begun d third o p q n =
        rotated-round
        (rotated-round
        (first_alike (apart-round (apart-round d)) o p (λ r. n (rotated-round (rotated-round r)))))

-- ---- the vertices of a triangle

-- a vertex on a triangle is one of the three at its corners
pub on_one : (T : List ℕ) (k : ℕ) {v : ℕ} → On T k v → OneOf (at T (3 * k)) (at T (3 * k + 1)) (at T (3 * k + 2)) v
on_one T k o = subst (OneOf _ _ _) o.holds
    (by-eq o.corner (3 * k) (λ e. rw e first)
    (λ m. by-eq o.corner (3 * k + 1) (λ e. rw e second)
    (λ n. let e : o.corner ≡ 3 * k + 2 = omega (arith, o.triangle) in rw e third)))

-- and each of these is on it
pub one_on : (T : List ℕ) (k : ℕ) {v : ℕ} → 3 * k + 3 ≤ length T
    → OneOf (at T (3 * k)) (at T (3 * k + 1)) (at T (3 * k + 2)) v → On T k v
one_on T k l first = record { corner = 3 * k; inside = omega arith; triangle = omega arith; holds = refl }
one_on T k l second = record { corner = 3 * k + 1; inside = omega arith; triangle = omega arith; holds = refl }
one_on T k l third = record { corner = 3 * k + 2; inside = omega arith; triangle = omega arith; holds = refl }

-- Something is said of the vertices at the corners of triangle k of T and at those of triangle t of S.
abbrev pub AtCorners : (T S : List ℕ) (k t : ℕ) → (ℕ → ℕ → ℕ → ℕ → ℕ → ℕ → Type 0) → Type 0
AtCorners T S k t said =
    said (at T (3 * k)) (at T (3 * k + 1)) (at T (3 * k + 2)) (at S (3 * t)) (at S (3 * t + 1)) (at S (3 * t + 2))

module _ (T S : List ℕ) (k t : ℕ) (l : 3 * k + 3 ≤ length T) (m : 3 * t + 3 ≤ length S) where
  -- so triangles are the same if the vertices at their corners are
  pub three-same : AtCorners T S k t SameThree → Same T k S t
  three-same e = record {
    there = λ v o. one_on S t m (e.there v (on_one T k o));
    back = λ v o. one_on T k l (e.back v (on_one S t o));
  }

  -- and only then
  pub same-three : Same T k S t → AtCorners T S k t SameThree
  same-three e = record {
    there = λ v o. on_one S t (e.there v (one_on T k l o));
    back = λ v o. on_one T k (e.back v (one_on S t m o));
  }

  -- corner 0 of a triangle is where it starts
  start : at T (3 * k + 0) ≡ at T (3 * k)
  start = ap (at T) (omega arith)

  other-start : at S (3 * t) ≡ at S (3 * t + 0)
  other-start = ap (at S) (omega arith)

  -- each corner of triangle k holds what the corner of triangle t holds that is so many further on
  abbrev Further : ℕ → Type 0
  Further by = (i : ℕ) → i < 3 → at T (3 * k + i) ≡ at S (3 * t + (i + by) % 3)

  -- which is to be that triangle rotated
  turned : (by : ℕ) → by < 3 → Further by → Rotated T k S t
  turned by few further =
      record { inside = omega arith; other_inside = omega arith; by = by; few = few; corners = further }

  -- so a triangle is another rotated if the vertices at its corners are
  pub three-rotated : AtCorners T S k t RotatedThree → Rotated T k S t
  three-rotated o = rotated-cases o
      (λ e f g. turned 0 (omega arith) (by_three _ (start ∙ e ∙ other-start) f g))
      (λ e f g. turned 1 (omega arith) (by_three _ (start ∙ e) f (g ∙ other-start)))
      (λ e f g. turned 2 (omega arith) (by_three _ (start ∙ e) (f ∙ other-start) g))

  -- and only then
  pub rotated-three : Rotated T k S t → AtCorners T S k t RotatedThree
  rotated-three o = by_three (λ by. Further by → AtCorners T S k t RotatedThree)
      (λ f. rotated-here (sym start ∙ f 0 (omega arith) ∙ sym other-start) (f 1 (omega arith)) (f 2 (omega arith)))
      (λ f. rotated-next (sym start ∙ f 0 (omega arith)) (f 1 (omega arith)) (f 2 (omega arith) ∙ sym other-start))
      (λ f. rotated-last (sym start ∙ f 0 (omega arith)) (f 1 (omega arith) ∙ sym other-start) (f 2 (omega arith)))
      o.by o.few o.corners
