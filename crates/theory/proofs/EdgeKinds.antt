-- "An edge is boundary, regular or singular when one, two, or three and more triangles have it": every edge of any
-- list is exactly one of these.
use Prim.Native.Nat.{ℕ, ◌+◌, ◌<◌}
use native.Mathlib.Decide.{ℕ_discrete}
use native.Mathlib.Omega.{arith}
use mathlib.Core.Path.{◌≡◌, sym, ◌∙◌}
use mathlib.Core.Logic.Dec
use mathlib.Core.Logic.{◌≢◌, ◌⊎◌, inl, inr, ⊎_elim}
use mathlib.Core.List.{List}
use Rattle.theory.specs.Mesh.{triangles, HasEdge, Boundary, Regular, Singular}
use Rattle.theory.specs.Mesh.{EdgeKind, boundary, regular, singular}
use Rattle.theory.proofs.Finite.{find-below}
use Rattle.theory.proofs.Mesh.{boundary-not-regular}
use Rattle.theory.proofs.Decide.{has_edge?, on-le}

-- ---- no two of the three

-- an edge of one triangle alone is not one of three
pub boundary-not-singular : {T : List ℕ} {u v : ℕ} → Boundary T u v → Singular T u v → ⊥
boundary-not-singular b s = s.differ₁₂ (b.others s.one s.has_one ∙ sym (b.others s.two s.has_two))

-- nor is one of two alone
pub regular-not-singular : {T : List ℕ} {u v : ℕ} → Regular T u v → Singular T u v → ⊥
regular-not-singular g s =
    pigeons (g.others s.one s.has_one) (g.others s.two s.has_two) (g.others s.three s.has_three)
  where
    pigeons : (s.one ≡ g.one) ⊎ (s.one ≡ g.two) → (s.two ≡ g.one) ⊎ (s.two ≡ g.two)
        → (s.three ≡ g.one) ⊎ (s.three ≡ g.two) → ⊥
    pigeons (inl a) (inl b) c = s.differ₁₂ (a ∙ sym b)
    pigeons (inl a) (inr b) (inl c) = s.differ₃₁ (c ∙ sym a)
    pigeons (inl a) (inr b) (inr c) = s.differ₂₃ (b ∙ sym c)
    pigeons (inr a) (inl b) (inl c) = s.differ₂₃ (b ∙ sym c)
    pigeons (inr a) (inl b) (inr c) = s.differ₃₁ (c ∙ sym a)
    pigeons (inr a) (inr b) c = s.differ₁₂ (a ∙ sym b)

-- ---- one of the three

module _ (T : List ℕ) (u v : ℕ) where
  -- either some triangle that has the edge is not among those told of, or all that have it are
  another : {Told : ℕ → Type 0} → ((k : ℕ) → Dec (Told k))
      → ((k : ℕ) × HasEdge T k u v × (Told k → ⊥)) ⊎ ((k : ℕ) → HasEdge T k u v → Told k)
  another {Told} told? =
      go (find-below {P = New} (triangles T + 1) (λ k _. Dec.and (has_edge? T k u v) (Dec.not (told? k))))
    where
      New : ℕ → Type 0
      New k = HasEdge T k u v × (Told k → ⊥)

      go : ((k : ℕ) × (k < triangles T + 1) × New k) ⊎ ((k : ℕ) → k < triangles T + 1 → New k → ⊥)
          → ((k : ℕ) × HasEdge T k u v × (Told k → ⊥)) ⊎ ((k : ℕ) → HasEdge T k u v → Told k)
      go (inl (k, l, n)) = inl (k, n.0, n.1)
      go (inr none) = inr (λ k h. (Dec.not-not (told? k)).0 (λ n. none k (omega (arith, on-le h.one_end)) (h, n)))

  -- an edge of two triangles is regular unless a third has it
  two-kind : (k l : ℕ) → k ≢ l → HasEdge T k u v → HasEdge T l u v → EdgeKind T u v
  two-kind k l d h g = go (another {Told = λ m. (m ≡ k) ⊎ (m ≡ l)} (λ m. either (ℕ_discrete m k) (ℕ_discrete m l)))
    where
      either : {A B : Type 0} → Dec A → Dec B → Dec (A ⊎ B)
      either (yes a) _ = yes (inl a)
      either (no m) (yes b) = yes (inr b)
      either (no m) (no n) = no (⊎_elim m n)

      go : ((m : ℕ) × HasEdge T m u v × ((m ≡ k) ⊎ (m ≡ l) → ⊥)) ⊎ ((m : ℕ) → HasEdge T m u v → (m ≡ k) ⊎ (m ≡ l))
          → EdgeKind T u v
      go (inl (m, e, n)) =
          singular s (λ b. boundary-not-singular b s) (λ r. regular-not-singular r s)
        where
          s : Singular T u v
          s = record {
            one = k;
            two = l;
            three = m;
            differ₁₂ = d;
            differ₂₃ = λ q. n (inr (sym q));
            differ₃₁ = λ q. n (inl q);
            has_one = h;
            has_two = g;
            has_three = e;
          }
      go (inr all) =
          regular r (λ b. boundary-not-regular b r) (regular-not-singular r)
        where
          r : Regular T u v
          r = record { one = k; two = l; differ = d; has_one = h; has_two = g; others = all }

  -- and an edge is boundary unless a second triangle has it
  pub edge-kind : (k : ℕ) → HasEdge T k u v → EdgeKind T u v
  edge-kind k h = go (another {Told = λ l. l ≡ k} (λ l. ℕ_discrete l k))
    where
      go : ((l : ℕ) × HasEdge T l u v × (l ≢ k)) ⊎ ((l : ℕ) → HasEdge T l u v → l ≡ k) → EdgeKind T u v
      go (inl (l, g, n)) = two-kind k l (λ q. n (sym q)) h g
      go (inr all) =
          boundary b (boundary-not-regular b) (boundary-not-singular b)
        where
          b : Boundary T u v
          b = record { only = k; has = h; others = all }
