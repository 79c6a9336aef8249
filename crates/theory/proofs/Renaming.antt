-- Laws of renamed lists and of matches between meshes: where the vertices of matched triangles go.
use Prim.Native.Nat.{ℕ, suc, ◌<◌}
use native.Mathlib.Omega.{arith}
use mathlib.Core.Path.{◌≡◌, refl, sym, ap, ap₂, ◌∙◌, subst, subst₂}
use mathlib.Core.List.{List, [], ◌∷◌}
use lib.ListN.{length, length-map}
use Rattle.theory.specs.Mesh.{at, triangles, On, Same, OtherwiseProper}
use Rattle.theory.specs.Reading.{Agreement, Match, Matched, renamed}
use Rattle.theory.proofs.Finite.{map_at, identity, identity-at, inverse, inverse-match, inverse-at}
use Rattle.theory.proofs.Finite.{at-inverse, composed, composed-at}
use Rattle.theory.proofs.Numbering.{Numbers, Renumbers}
use Rattle.theory.proofs.Mesh.{on-vertex}

-- ---- renamed lists

-- an entry of a renamed list
pub renamed-at : (f T : List ℕ) (c : ℕ) → c < length T → at (renamed f T) c ≡ at f (at T c)
unfolding renamed
renamed-at f T c l = map_at (at f) T c l

-- renaming leaves the length
pub renamed-length : (f T : List ℕ) → length (renamed f T) ≡ length T
unfolding renamed
renamed-length f T = length-map T (at f)

-- a vertex on a triangle is on it when renamed
pub on-renamed : (f : List ℕ) {T : List ℕ} {k v : ℕ} → On T k v → On (renamed f T) k (at f v)
on-renamed f {T} o = record {
  corner = o.corner;
  inside = omega (arith, renamed-length f T, o.inside);
  triangle = o.triangle;
  holds = renamed-at f T o.corner o.inside ∙ ap (at f) o.holds;
}

-- and each vertex on the renamed triangle comes from one
pub renamed-on : (f : List ℕ) {T : List ℕ} {k y : ℕ} → On (renamed f T) k y → (v : ℕ) × On T k v × (at f v ≡ y)
renamed-on f {T} o =
    let l : o.corner < length T = omega (arith, renamed-length f T, o.inside) in (
      at T o.corner,
      record { corner = o.corner; inside = l; triangle = o.triangle; holds = refl },
      sym (renamed-at f T o.corner l) ∙ o.holds,
    )

-- a list of numbers below n is not changed by that match
pub renamed-identity : (n : ℕ) (T : List ℕ) → ((c : ℕ) → c < length T → at T c < n) → renamed (identity n) T ≡ T
unfolding renamed
renamed-identity n [] b = refl
renamed-identity n (v ∷ T) b =
    ap₂ ◌∷◌ (identity-at n v (b 0 (omega arith))) (renamed-identity n T λ c l. b (suc c) (omega arith))

-- to rename by one match after another is to rename twice
pub renamed-composed : (f g T : List ℕ) → ((c : ℕ) → c < length T → at T c < length f)
    → renamed (composed f g) T ≡ renamed g (renamed f T)
unfolding renamed
renamed-composed f g [] b = refl
renamed-composed f g (v ∷ T) b =
    ap₂ ◌∷◌ (composed-at f g v (b 0 (omega arith))) (renamed-composed f g T λ c l. b (suc c) (omega arith))

-- ---- matched triangles

module _ {f g T S : List ℕ} {N M : ℕ} (G : Matched Same f g N T M S) where
  -- a vertex of triangle k goes to a vertex of its match
  pub on-match : {k v : ℕ} → k < triangles T → On T k v → On S (at g k) (at f v)
  on-match {k} {v} l o = (G.agreed k l).there (at f v) (on-renamed f o)

  -- and every vertex of the match comes from one
  pub match-on : {k w : ℕ} → k < triangles T → On S (at g k) w → (v : ℕ) × On T k v × (at f v ≡ w)
  match-on {k} {w} l o = renamed-on f ((G.agreed k l).back w o)

  -- only the vertices of triangle k go to vertices of its match
  pub match-on-only : OtherwiseProper N T → {k v : ℕ} → k < triangles T → v < N → On S (at g k) (at f v) → On T k v
  match-on-only P {k} {v} l b o = go (match-on l o)
    where
      go : (u : ℕ) × On T k u × (at f u ≡ at f v) → On T k v
      go (u, p, e) = subst (On T k) (G.vertices.apart u v (on-vertex P p) b e) p

-- the match the other way round
pub matched-inverse : {f g T S : List ℕ} {N M : ℕ} → OtherwiseProper N T → (G : Matched Same f g N T M S)
    → Matched Same (inverse G.vertices) (inverse G.faces) M S N T
matched-inverse {f} {g} {T} {S} {N} {M} P G = record {
  vertices = inverse-match G.vertices;
  faces = inverse-match G.faces;
  agreed = λ l b. from l b ((inverse-match G.faces).below l b) (at-inverse G.faces l b);
}
  where
    -- a vertex of T that was renamed comes back
    home : {k v : ℕ} → On T k v → at (inverse G.vertices) (at f v) ≡ v
    home o = inverse-at G.vertices _ (on-vertex P o)

    from : (l : ℕ) → l < triangles S → at (inverse G.faces) l < triangles T → at g (at (inverse G.faces) l) ≡ l
        → Same (renamed (inverse G.vertices) S) l T (at (inverse G.faces) l)
    from l b c e = record { there = λ v o. there v (renamed-on (inverse G.vertices) o); back = back }
      where
        k : ℕ
        k = at (inverse G.faces) l

        there : (v : ℕ) → (w : ℕ) × On S l w × (at (inverse G.vertices) w ≡ v) → On T k v
        there v (w, o, q) = go (match-on G c (subst (λ (l : ℕ). On S l w) (sym e) o))
          where
            go : (u : ℕ) × On T k u × (at f u ≡ w) → On T k v
            go (u, p, r) = subst (On T k) (sym (home p) ∙ ap (at (inverse G.vertices)) r ∙ q) p

        back : (v : ℕ) → On T k v → On (renamed (inverse G.vertices) S) l v
        back v o = subst (On (renamed (inverse G.vertices) S) l) (home o)
            (on-renamed (inverse G.vertices) (subst (λ (l : ℕ). On S l (at f v)) e (on-match G c o)))

-- meshes are matched by renumbering their triangles, where each triangle agrees with the one with its new number
pub renumbers-matched : {agree : Agreement} {K : ℕ → Type 0} {φ ψ : ℕ → ℕ} {f T S : List ℕ} {N M n : ℕ} → Match f N M
    → Numbers K φ (triangles T) → (F : Renumbers K φ (triangles T) ψ n) → triangles S ≡ n
    → ((k : ℕ) → K k → agree (renamed f T) (φ k) S (ψ k)) → Matched agree f F.list N T M S
renumbers-matched {agree} {K} {φ} {ψ} {f} {T} {S} G A F size agreed = record {
  vertices = G;
  faces = subst (Match F.list (triangles T)) (sym size) F.match;
  agreed = λ j l. of j (A.onto j l);
}
  where
    of : (j : ℕ) → (k : ℕ) × K k × (φ k ≡ j) → agree (renamed f T) j S (at F.list j)
    of j (k, q, e) =
        subst₂ (λ i h. agree (renamed f T) i S h) e (sym (F.sends k q) ∙ ap (at F.list) e) (agreed k q)
