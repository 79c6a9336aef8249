-- The old rule of a reading, "the same three vertices", beside the rule, "up to rotation of corners" (#103): a role has
-- a reading exactly if it has one by the old rule whose returned one agrees everywhere. So where a role has one by the
-- old rule alone there is a place for 15, and only one.
use Prim.Native.Nat.{ℕ, zero, suc, ◌<◌}
use native.Mathlib.Omega.{arith}
use mathlib.Core.Path.{◌≡◌, refl, subst}
use mathlib.Core.Logic.{◌⊎◌, inl, inr, ◌↔◌}
use mathlib.Core.List.{List}
use Rattle.theory.specs.Mesh.{at, triangles, Same, Rotated, Proper}
use Rattle.theory.specs.Splitting.{split}
use Rattle.theory.specs.Reading.{Agreement, renamed, Reading, ReadingIn, Disagrees, Returned}
use Rattle.theory.specs.Choice.{NoRole, Chosen, NoneChosen}
use Rattle.theory.specs.Refusals.{InsideOut, reading_rules, LeastPlace, Passed, Refused}
use Rattle.theory.proofs.Finite.{below_last, first_below}
use Rattle.theory.proofs.Decide.{rotated?}
use Rattle.theory.proofs.Refusals.{at-place-0}
use Rattle.theory.proofs.Agreement.{same-implies, reading_in-same, returned-same}
use Rattle.theory.proofs.Lawful.{same-lawful}
use Rattle.theory.proofs.Rotation.{rotated-implies, rotated-lawful}
use Rattle.theory.proofs.Unique.{returned-unique}
use Rattle.theory.proofs.Canonical.{returned-exists}
use Rattle.theory.proofs.Determined.{returned-in, chosen-unique, chosen-not-none}

-- ---- one role

-- a triangle agrees with its own of the splitting, or disagrees
disagrees? : (T : List ℕ) (r : Reading) (k : ℕ) → k < triangles T → Dec (Disagrees Rotated T r k)
disagrees? T r k l =
    elim (rotated? (renamed r.vertex_map T) k (split r.vertices r.mesh) (at r.triangle_map k)) [
      | yes a ↦ no (λ d. d.differs a)
      | no n ↦ yes (record { inside = l; differs = n })
    ]

-- a returned reading by the rule disagrees nowhere
returned-agrees : {N : ℕ} {T : List ℕ} {role : ℕ} {r : Reading} → Returned Rotated N T role r → (k : ℕ)
    → Disagrees Rotated T r k → ⊥
returned-agrees R k d = d.differs (R.is.matched.agreed k d.inside)

module _ {N : ℕ} {T : List ℕ} {role : ℕ} {r : Reading} (R : Returned Same N T role r) where
  -- where the returned reading by the old rule disagrees nowhere, it is the returned one
  pub agrees-returned : ((k : ℕ) → Disagrees Rotated T r k → ⊥) → Returned Rotated N T role r
  agrees-returned nowhere = record {
    is = record {
      proper = R.is.proper;
      matched = record {
        vertices = R.is.matched.vertices;
        faces = R.is.matched.faces;
        agreed = λ k l. upheld k l
            (rotated? (renamed r.vertex_map T) k (split r.vertices r.mesh) (at r.triangle_map k));
      };
    };
    in_role = R.in_role;
    kept_upward = R.kept_upward;
    centres_upward = R.centres_upward;
    rows = R.rows;
  }
    where
      Agrees : ℕ → Type 0
      Agrees k = Rotated (renamed r.vertex_map T) k (split r.vertices r.mesh) (at r.triangle_map k)

      upheld : (k : ℕ) → k < triangles T → Dec (Agrees k) → Agrees k
      upheld k l (yes a) = a
      upheld k l (no n) = absurd (nowhere k (record { inside = l; differs = n }))

  -- where the role has a reading, the returned one by the old rule is the returned one
  pub old-returned : Proper N T → ReadingIn Rotated N T role → Returned Rotated N T role r
  old-returned P S = go (returned-exists N T P rotated-lawful role S)
    where
      go : (s : Reading) × Returned Rotated N T role s → Returned Rotated N T role r
      go (s, Q) = subst (Returned Rotated N T role)
          (returned-unique N T P same-implies s r role (returned-same rotated-implies Q) R) Q

  -- where it has none, there is a least triangle that disagrees
  pub least-disagrees : (ReadingIn Rotated N T role → ⊥) → (k : ℕ) × LeastPlace (Disagrees Rotated T r) k
  least-disagrees none = go (first_below (triangles T) (disagrees? T r))
    where
      go : ((k : ℕ) × (k < triangles T) × Disagrees Rotated T r k × ((j : ℕ) → j < k → Disagrees Rotated T r j → ⊥))
          ⊎ ((k : ℕ) → k < triangles T → Disagrees Rotated T r k → ⊥)
          → (k : ℕ) × LeastPlace (Disagrees Rotated T r) k
      go (inl (k, _, d, before)) = (k, record { here = d; before = before })
      go (inr nowhere) = absurd (none (returned-in (agrees-returned (λ k d. nowhere k d.inside d))))

-- a role has a reading exactly if it has one by the old rule, whose returned one disagrees nowhere
pub reading-exactly : {N : ℕ} {T : List ℕ} {role : ℕ} → Proper N T → ReadingIn Rotated N T role
    ↔ ((r : Reading) × Returned Same N T role r × ((k : ℕ) → Disagrees Rotated T r k → ⊥))
reading-exactly {N} {T} {role} P = (there, back)
  where
    there : ReadingIn Rotated N T role
        → (r : Reading) × Returned Same N T role r × ((k : ℕ) → Disagrees Rotated T r k → ⊥)
    there S = go (returned-exists N T P rotated-lawful role S)
      where
        go : (r : Reading) × Returned Rotated N T role r
            → (r : Reading) × Returned Same N T role r × ((k : ℕ) → Disagrees Rotated T r k → ⊥)
        go (r, R) = (r, returned-same rotated-implies R, returned-agrees R)

    back : (r : Reading) × Returned Same N T role r × ((k : ℕ) → Disagrees Rotated T r k → ⊥)
        → ReadingIn Rotated N T role
    back (r, R, nowhere) = returned-in (agrees-returned R nowhere)

-- ---- the roles asked

-- the role chosen has a reading
pub chosen-reading : {agree : Agreement} {N : ℕ} {T : List ℕ} {asked role : ℕ} → Chosen agree N T asked role
    → ReadingIn agree N T role
chosen-reading (Chosen.named _ R) = R
chosen-reading (Chosen.least L) = L.has

-- where none is chosen, no role has a reading that another agreement could choose
none-chosen-reading : {agree other : Agreement} {N : ℕ} {T : List ℕ} {asked role : ℕ} → NoneChosen agree N T asked
    → Chosen other N T asked role → ReadingIn agree N T role → ⊥
none-chosen-reading (NoneChosen.named _ none) (Chosen.named _ _) = none
none-chosen-reading (NoneChosen.named l _) (Chosen.least _) = absurd (omega arith)
none-chosen-reading (NoneChosen.least _) (Chosen.named l _) = absurd (omega arith)
none-chosen-reading (NoneChosen.least n) (Chosen.least _) = n.none _

-- where no role has a reading by the old rule, none has one
pub no-role-by-old : {N : ℕ} {T : List ℕ} → NoRole Same N T → NoRole Rotated N T
no-role-by-old n = record { none = λ role R. n.none role (reading_in-same rotated-implies R) }

-- and likewise of the roles asked
pub none-by-old : {N : ℕ} {T : List ℕ} {asked : ℕ} → NoneChosen Same N T asked → NoneChosen Rotated N T asked
none-by-old (NoneChosen.named l none) = NoneChosen.named l (λ R. none (reading_in-same rotated-implies R))
none-by-old (NoneChosen.least n) = NoneChosen.least (no-role-by-old n)

-- 15 is not given where a role is chosen
pub chosen-not-inside-out : {N : ℕ} {T : List ℕ} {asked role k : ℕ} → Chosen Rotated N T asked role
    → InsideOut N T asked k → ⊥
chosen-not-inside-out c o = chosen-not-none c o.none_by_new

-- nor where none is by the old rule
pub none-not-inside-out : {N : ℕ} {T : List ℕ} {asked k : ℕ} → NoneChosen Same N T asked → InsideOut N T asked k → ⊥
none-not-inside-out n o = chosen-not-none o.by_old n

module _ {N : ℕ} {T : List ℕ} (P : Proper N T) where
  -- the role and the reading of which 15 speaks are one, and so its place is the least triangle that disagrees there
  pub inside-out-at : {asked role k : ℕ} {r : Reading} → NoneChosen Rotated N T asked → Chosen Same N T asked role
      → Returned Same N T role r → LeastPlace (Disagrees Rotated T r) k → LeastPlace (InsideOut N T asked) k
  inside-out-at {asked} {role} {k} {r} none c R least = record {
    here = record {
      none_by_new = none;
      role = role;
      by_old = c;
      reading = r;
      returned = R;
      disagrees = least.here;
    };
    before = λ j l o. least.before j l (subst (λ (s : Reading). Disagrees Rotated T s j) (same o) o.disagrees);
  }
    where
      same : {j : ℕ} (o : InsideOut N T asked j) → o.reading ≡ r
      same o = returned-unique N T P same-implies o.reading r role
          (subst (λ (ρ : ℕ). Returned Same N T ρ o.reading) (chosen-unique o.by_old c) o.returned) R

  -- where a role is chosen by the old rule and none by the rule, there is such a place
  pub inside-out : {asked role : ℕ} → NoneChosen Rotated N T asked → Chosen Same N T asked role
      → (k : ℕ) × LeastPlace (InsideOut N T asked) k
  inside-out {asked} {role} none c = go (returned-exists N T P same-lawful role (chosen-reading c))
    where
      go : (r : Reading) × Returned Same N T role r → (k : ℕ) × LeastPlace (InsideOut N T asked) k
      go (r, R) = at_least (least-disagrees R (none-chosen-reading none c))
        where
          at_least : (k : ℕ) × LeastPlace (Disagrees Rotated T r) k → (k : ℕ) × LeastPlace (InsideOut N T asked) k
          at_least (k, least) = (k, inside-out-at none c R least)

  -- so where 15 is nowhere given though none is chosen, none is by the old rule either
  never-inside-out : {asked role : ℕ} → NoneChosen Rotated N T asked → ((k : ℕ) → InsideOut N T asked k → ⊥)
      → Chosen Same N T asked role → ⊥
  never-inside-out {asked} none never c = go (inside-out none c)
    where
      go : (k : ℕ) × LeastPlace (InsideOut N T asked) k → ⊥
      go (k, least) = never k least.here

  pub none_old : {asked : ℕ} → NoneChosen Rotated N T asked → ((k : ℕ) → InsideOut N T asked k → ⊥)
      → NoneChosen Same N T asked
  none_old (NoneChosen.named l none) never =
      NoneChosen.named l (λ S. never-inside-out (NoneChosen.named l none) never (Chosen.named l S))
  none_old (NoneChosen.least none) never =
      NoneChosen.least (record { none = λ role. nowhere (suc role) role (omega arith) })
    where
      -- a role before which none has a reading by the old rule has none, being the least otherwise
      refuted : (role : ℕ) → ((earlier : ℕ) → earlier < role → ReadingIn Same N T earlier → ⊥)
          → ReadingIn Same N T role → ⊥
      refuted role before S =
          never-inside-out (NoneChosen.least none) never (Chosen.least (record { has = S; before = before }))

      nowhere : (n role : ℕ) → role < n → ReadingIn Same N T role → ⊥
      nowhere zero = λ role l. absurd (omega arith)
      nowhere (suc n) = below_last {P = λ ρ. ReadingIn Same N T ρ → ⊥} n (nowhere n) (refuted n (nowhere n))

-- ---- the rows 15 and 11

-- a role that is chosen passes them
pub chosen-passes : {N : ℕ} {T : List ℕ} {asked role : ℕ} → Chosen Rotated N T asked role
    → Passed (reading_rules N T asked)
unfolding Passed
chosen-passes c = (λ place o. chosen-not-inside-out c o, (λ place g. chosen-not-none c g.0, tt))

-- where none is chosen by the old rule, 11 is given
pub none-refuses : {N : ℕ} {T : List ℕ} {asked : ℕ} → NoneChosen Same N T asked → Refused (reading_rules N T asked) 11 0
unfolding Refused
none-refuses n = inr (λ place o. none-not-inside-out n o, inl (refl, at-place-0 (none-by-old n)))

-- and 15 at its place
pub inside-out-refuses : {N : ℕ} {T : List ℕ} {asked k : ℕ} → LeastPlace (InsideOut N T asked) k
    → Refused (reading_rules N T asked) 15 k
unfolding Refused
inside-out-refuses least = inl (refl, least)
