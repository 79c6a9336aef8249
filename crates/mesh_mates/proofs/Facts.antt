-- What `others` makes of the rings is the other half-edge.
use Prim.Native.Nat.{ℕ, ◌<◌}
use mathlib.Core.Path.{◌∙◌, sym, ap}
use mathlib.Core.Logic.{◌≢◌, inl, inr}
use mathlib.Core.List.{List}
use Rattle.theory.specs.Mesh.{at}
use Rattle.lists.proofs.Lists.{by-eq}
use Rattle.mesh_rings.specs.Ring.{RingBy, Chosen, met, new}
use Rattle.mesh_rings.proofs.Facts.{follows-alone, ring-below, onward, back-two}
use Rattle.mesh_mates.specs.Others.{OthersOf, OtherOf, alone, mate, several, Othered}

module _ {n : ℕ} {key : ℕ → ℕ} {ring : List ℕ} (R : RingBy n key ring) where
  -- what `others` makes of the ring is the other index
  pub others-found : {other : List ℕ} → OthersOf n ring other → Othered n key other
  others-found O = record { entry = λ h l. found h l (O.entry h l) }
    where
      found : (h : ℕ) → h < n → {v : ℕ} → Chosen (at ring (at ring h)) h (at ring h) n v → OtherOf n key h v
      found h l (met e) =
          by-eq (at ring h) h
          (λ self. rw self (alone (follows-alone (rw self at (R.follows h l)))))
          (λ differ.
          mate
          (record {
            inside = ring-below R h l;
            another = differ;
            same = (R.follows h l).same;
            only = λ f b same. by-eq f h inl (λ ne. inr (back-two R h l e f b same ne));
          }))
      found h l (new ne) =
          several (at ring h) (at ring (at ring h)) (ring-below R h l) (onward R h l).within
          (λ self. ne (ap (at ring) self ∙ self)) ne stays
          (R.follows h l).same ((onward R h l).same ∙ (R.follows h l).same)
        where
          stays : at ring h ≢ at ring (at ring h)
          stays same =
              ne (sym same ∙ sym (follows-alone (rw (← same) at (onward R h l)) h l (sym (R.follows h l).same)))
