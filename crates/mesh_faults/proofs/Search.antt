-- Laws of the search for the least half-edge with a twin before it: from the edges that end before half-edge h to those
-- that end at h, at once where at most two half-edges are on the edge, else by a walk up to h.
use Prim.Native.Nat.{ℕ, ◌+◌, ◌≤◌, ◌<◌, min}
use native.Mathlib.Omega.{arith}
use mathlib.Core.Path.{◌≡◌, ◌∙◌, refl, sym, ap}
use mathlib.Core.Logic.{◌≢◌}
use mathlib.Core.List.{List}
use lib.ListN.{length, length-set, set}
use Rattle.theory.specs.Mesh.{at}
use Rattle.std.proofs.Common.{Some, None}
use Rattle.lists.specs.Places.{Least}
use Rattle.lists.specs.Places.Least.{found, none}
use Rattle.lists.proofs.Lists.{by-eq, by-lt, at_set}
use Rattle.mesh_rings.specs.Ring.{FollowsBy, RingBy}
use Rattle.mesh_rings.proofs.Facts.{back-two}
use Rattle.mesh_faults.specs.Twins.{TwinBelow, HasTwin, LeastBefore, TwinLent, LastLent, TwinMet}
use Rattle.mesh_faults.specs.Twins.{MeetLent, Met, again, anew}

-- ---- the least half-edge

module _ {n : ℕ} {key : ℕ → ℕ} {thirds : List ℕ} where
  -- where no edge is looked at, none is found
  pub least-none : LeastBefore n key thirds 0 n
  least-none =
      record {
        within = omega arith;
        here = λ l. absurd (omega arith);
        before = λ x l none t. none x (omega arith) l refl;
      }

  -- where all are, it is the least
  pub least-some : {least : ℕ} → LeastBefore n key thirds n least → least < n → Least (HasTwin key thirds) n (Some least)
  least-some L l = found l (L.here l) (λ x b t. L.before x b (λ g p q e. absurd (omega arith)) t)

  -- and where there is none, there is none
  pub least-nothing : {least : ℕ} → LeastBefore n key thirds n least → n ≤ least → Least (HasTwin key thirds) n None
  least-nothing L l = none (λ x b t. L.before x (omega arith) (λ g p q e. absurd (omega arith)) t)

  -- the lesser of two half-edges that have a twin has one
  min-twin : {a b : ℕ} → (a < n → HasTwin key thirds a) → HasTwin key thirds b → min a b < n
      → HasTwin key thirds (min a b)
  min-twin {a} {b} s t l =
      by-lt a b
      (λ p. let e : min a b ≡ a = omega arith in rw e (s (omega arith)))
      (λ p. let e : min a b ≡ b = omega arith in rw e t)

  -- from the edges that end before h to those that end at h: where h's edge does, none before what is found has a twin
  -- on it
  widened : {h least found : ℕ} → LeastBefore n key thirds h least → found ≤ least
      → (found < n → HasTwin key thirds found)
      → ((x : ℕ) → x < found → x ≤ h → key x ≡ key h → ((g : ℕ) → h < g → g < n → key g ≡ key h → ⊥)
      → HasTwin key thirds x → ⊥)
      → LeastBefore n key thirds (h + 1) found
  widened {h} {least} {found} L b here own =
      record {
        within = omega (arith, L.within);
        here = here;
        before = λ x l none t.
            by-eq (key x) (key h)
            (λ e.
            own x l (by-lt h x (λ p. absurd (none x (omega arith) (omega (arith, L.within)) refl)) (λ p. p)) e
            (λ g p q s. none g (omega arith) q (s ∙ sym e)) t)
            (λ ne.
            L.before x (omega arith)
            (λ g p q e. by-eq g h (λ s. ne (sym e ∙ ap key s)) (λ s. none g (omega arith) q e)) t);
      }

-- ---- an edge that is looked at without a walk

module _ {h n : ℕ} {ring thirds stamp : List ℕ} (L : TwinLent h n ring thirds stamp) where
  -- where nothing is stored
  unstamped : {least found : ℕ} → ((key : ℕ → ℕ) → RingBy n key ring → LeastBefore n key thirds h least
      → LeastBefore n key thirds (h + 1) found) → TwinMet h n ring thirds least stamp found stamp
  unstamped more = record { more = more; stamps = λ v ne. refl }

  -- h is not the last on its edge
  pub not_last : {least : ℕ} → h < at ring h → TwinMet h n ring thirds least stamp least stamp
  not_last l =
      unstamped
      (λ key R B.
      let F = R.follows h L.inside in
      widened B (omega arith) B.here (λ x b p e none t. none (at ring h) l F.within F.same))

  module _ (back : at ring (at ring h) ≡ h) where
    -- of at most two half-edges only the greater has a twin before it, the lesser
    two-twin : (key : ℕ → ℕ) → RingBy n key ring → (x : ℕ) → x ≤ h → key x ≡ key h → (t : HasTwin key thirds x)
        → (x ≡ h) × (t.twin ≡ at ring h)
    two-twin key R x p e t =
        let l : x < n = omega (arith, L.inside) in
        let other : t.twin ≡ at ring h =
        back-two R h L.inside back t.twin (omega (arith, t.before)) (t.edge ∙ e) (omega (arith, t.before)) in
        (by-eq x h (λ s. s) (λ s. absurd (omega (arith, t.before, back-two R h L.inside back x l e s))), other)

    -- the two are twins
    pub two-twins : {least : ℕ} → at ring h < h → at thirds (at ring h) ≡ at thirds h
        → TwinMet h n ring thirds least stamp (min least h) stamp
    two-twins l same =
        unstamped
        (λ key R B.
        widened B (omega arith)
        (min-twin B.here
        (record { twin = at ring h; before = l; edge = (R.follows h L.inside).same; vertex = same }))
        (λ x b p e none t. omega (arith, (two-twin key R x p e t).0)))

    -- they are not, or there is only one
    pub two_none : {least : ℕ} → (at ring h < h → at thirds (at ring h) ≢ at thirds h)
        → TwinMet h n ring thirds least stamp least stamp
    two_none differ =
        unstamped
        (λ key R B.
        widened B (omega arith) B.here
        (λ x b p e none t.
        let (s, o) = two-twin key R x p e t in
        differ (omega (arith, t.before)) (ap (at thirds) (sym o) ∙ t.vertex ∙ ap (at thirds) s)))

-- ---- a walk up to the last half-edge of an edge

-- a twin below b is below what is not less
raised : {key : ℕ → ℕ} {thirds : List ℕ} {b c x : ℕ} → b ≤ c → TwinBelow key thirds b x → TwinBelow key thirds c x
raised l t = record { twin = t.twin; before = omega (arith, t.before); edge = t.edge; vertex = t.vertex }

-- The stamp h stands at the third vertices of the half-edges on h's edge below b, and at those of no others on it.
pub record Stamped (h n : ℕ) (key : ℕ → ℕ) (thirds : List ℕ) (b : ℕ) (stamp : List ℕ) : Type 0 where
  pub only : (x : ℕ) → x < n → key x ≡ key h → at stamp (at thirds x) ≡ h → TwinBelow key thirds b x
  pub all : (g : ℕ) → g < b → key g ≡ key h → at stamp (at thirds g) ≡ h

-- Of the half-edges whose edges end before h, and those on h's edge below b, the least with a twin before it.
pub record LeastWith (h n : ℕ) (key : ℕ → ℕ) (thirds : List ℕ) (b found : ℕ) : Type 0 where
  pub least : LeastBefore n key thirds h found
  pub own : (x : ℕ) → x < found → x < b → key x ≡ key h → HasTwin key thirds x → ⊥

-- The walk has met the half-edges on h's edge below b. It came with `least` and `stamp₀`.
pub record Walked (h n : ℕ) (ring thirds : List ℕ) (least : ℕ) (stamp₀ : List ℕ) (b found : ℕ) (stamp : List ℕ)
    : Type 0 where
  pub long : length stamp ≡ length stamp₀
  pub counted : (key : ℕ → ℕ) → RingBy n key ring → LeastBefore n key thirds h least → LeastWith h n key thirds b found
  pub stamped : (key : ℕ → ℕ) → RingBy n key ring → Stamped h n key thirds b stamp
  pub rest : (v : ℕ) → at stamp v ≢ h → at stamp v ≡ at stamp₀ v

-- Half-edge x is on h's edge.
pub record OnRing (h n : ℕ) (ring : List ℕ) (x : ℕ) : Type 0 where
  pub upto : x ≤ h
  pub same : (key : ℕ → ℕ) → RingBy n key ring → key x ≡ key h

module _ {h n : ℕ} {ring thirds stamp₀ : List ℕ} (L : LastLent h n ring thirds stamp₀) where
  -- the first is on it
  pub first_on : OnRing h n ring (at ring h)
  first_on = record { upto = omega (arith, L.last); same = λ key R. (R.follows h L.lent.inside).same }

  -- below the first there is none
  pub walked_none : {least : ℕ} → Walked h n ring thirds least stamp₀ (at ring h) least stamp₀
  walked_none {least} =
      record {
        long = refl;
        counted = λ key R B. record { least = B; own = λ x l b e t. none key R x b e };
        stamped = λ key R.
            record {
              only = λ x l e s. absurd (L.lent.fresh h x (omega arith) L.lent.inside l s);
              all = λ g b e. absurd (none key R g b e);
            };
        rest = λ v ne. refl;
      }
    where
      none : (key : ℕ → ℕ) → RingBy n key ring → (g : ℕ) → g < at ring h → key g ≡ key h → ⊥
      none key R = (R.follows h L.lent.inside).first (omega (arith, L.last))

  module _ {x : ℕ} (O : OnRing h n ring x) where
    -- x is a half-edge
    inside : x < n
    inside = omega (arith, O.upto, L.lent.inside)

    -- what `meet` is lent
    pub meetable : {stamp : List ℕ} → length stamp ≡ length stamp₀ → MeetLent x h thirds stamp
    meetable long =
        record {
          small = omega (arith, L.lent.inside, L.lent.room.small);
          upto = O.upto;
          thirds_room = omega (arith, inside, L.lent.room.thirds_room);
          stampable = omega (arith, L.lent.room.stampable x inside);
        }

    -- what follows it, by the key that the rings are by
    follows : FollowsBy n L.lent.room.key x (at ring x)
    follows = L.lent.room.ringed.follows x inside

    -- by which h is on the same edge
    same_key : L.lent.room.key h ≡ L.lent.room.key x
    same_key = sym (O.same L.lent.room.key L.lent.room.ringed)

    -- before h the walk goes up
    pub next-above : x < h → x < at ring x
    next-above l =
        by-lt x (at ring x) (λ p. p) (λ p. absurd (follows.last p h l L.lent.inside same_key))

    -- at most to h, and stays on the edge
    pub next-on : x < h → OnRing h n ring (at ring x)
    next-on l =
        record {
          upto = by-lt h (at ring x) (λ p. absurd (follows.next (next-above l) h l p same_key)) (λ p. p);
          same = λ key R. (R.follows x inside).same ∙ O.same key R;
        }

    module _ {least found : ℕ} {stamp : List ℕ} where
      -- between the two none is left out
      pub walked_on : x < h → Walked h n ring thirds least stamp₀ (x + 1) found stamp
          → Walked h n ring thirds least stamp₀ (at ring x) found stamp
      walked_on l W =
          record {
            long = W.long;
            counted = λ key R B.
                let C = W.counted key R B in
                record { least = C.least; own = λ y p b e t. C.own y p (below key R y b e) e t };
            stamped = λ key R.
                record {
                  only = λ y p e s. raised (omega (arith, next-above l)) ((W.stamped key R).only y p e s);
                  all = λ g b e. (W.stamped key R).all g (below key R g b e) e;
                };
            rest = W.rest;
          }
        where
          below : (key : ℕ → ℕ) → RingBy n key ring → (g : ℕ) → g < at ring x → key g ≡ key h → g < x + 1
          below key R g b e =
              by-lt g (x + 1) (λ p. p)
              (λ p. absurd ((R.follows x inside).next (next-above l) g (omega arith) b (e ∙ sym (O.same key R))))

      -- x is met
      pub walked_more : {found' : ℕ} {stamp' : List ℕ} → Walked h n ring thirds least stamp₀ x found stamp
          → Met x h thirds found stamp found' stamp' → Walked h n ring thirds least stamp₀ (x + 1) found' stamp'
      walked_more W M = go M
        where
          room : at thirds x < length stamp
          room = omega (arith, W.long, L.lent.room.stampable x inside)

          stored : (key : ℕ → ℕ) → RingBy n key ring → Stamped h n key thirds (x + 1) (set stamp (at thirds x) h)
          stored key R =
              record {
                only = λ y l e.
                    at_set (λ w. w ≡ h → TwinBelow key thirds (x + 1) y) stamp (at thirds x) h (at thirds y) room
                    (λ same s.
                    record { twin = x; before = omega arith; edge = O.same key R ∙ sym e; vertex = sym same })
                    (λ other s. raised (omega arith) ((W.stamped key R).only y l e s));
                all = λ g b e.
                    at_set (λ w. w ≡ h) stamp (at thirds x) h (at thirds g) room (λ same. refl)
                    (λ other.
                    (W.stamped key R).all g (by-eq g x (λ s. absurd (other (ap (at thirds) s))) (λ s. omega arith)) e);
              }

          with-store : {found' : ℕ} → ((key : ℕ → ℕ) → RingBy n key ring → LeastBefore n key thirds h least
              → LeastWith h n key thirds (x + 1) found')
              → Walked h n ring thirds least stamp₀ (x + 1) found' (set stamp (at thirds x) h)
          with-store counted =
              record {
                long = length-set stamp (at thirds x) h ∙ W.long;
                counted = counted;
                stamped = stored;
                rest = λ v.
                    at_set (λ w. w ≢ h → w ≡ at stamp₀ v) stamp (at thirds x) h v room
                    (λ same ne. absurd (ne refl))
                    (λ other. W.rest v);
              }

          go : {found' : ℕ} {stamp' : List ℕ} → Met x h thirds found stamp found' stamp'
              → Walked h n ring thirds least stamp₀ (x + 1) found' stamp'
          go (again s) =
              with-store
              (λ key R B.
              let C = W.counted key R B in
              record {
                least = record {
                  within = omega (arith, C.least.within);
                  here = min-twin C.least.here ((W.stamped key R).only x inside (O.same key R) s);
                  before = λ y l none t. C.least.before y (omega arith) none t;
                };
                own = λ y l b e t. C.own y (omega arith) (omega arith) e t;
              })
          go (anew s) =
              with-store
              (λ key R B.
              let C = W.counted key R B in
              record {
                least = C.least;
                own = λ y l b e t.
                    by-eq y x
                    (λ p.
                    s (ap (at stamp) (sym (t.vertex ∙ ap (at thirds) p))
                    ∙ (W.stamped key R).all t.twin (omega (arith, t.before)) (t.edge ∙ e)))
                    (λ p. C.own y l (omega arith) e t);
              })

-- h itself is met: the edges that end at h are looked at
pub walked_all : {h n : ℕ} {ring thirds : List ℕ} {least : ℕ} {stamp₀ : List ℕ} {found : ℕ} {stamp : List ℕ}
    → Walked h n ring thirds least stamp₀ (h + 1) found stamp → TwinMet h n ring thirds least stamp₀ found stamp
walked_all W =
    record {
      more = λ key R B.
          let C = W.counted key R B in
          widened C.least (omega arith) C.least.here (λ x l p e none t. C.own x l (omega arith) e t);
      stamps = W.rest;
    }
