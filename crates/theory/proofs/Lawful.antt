-- What the laws that carry an agreement along ask of it, and that "the same three vertices" has it: so a mesh agrees
-- with itself, matches of meshes compose, and where meshes are matched their splittings are.
use Prim.Native.Nat.{ℕ, ◌+◌, ◌*◌, ◌<◌}
use native.Mathlib.Omega.{arith}
use mathlib.Core.Path.{◌≡◌, subst}
use mathlib.Core.List.{List}
use lib.ListN.{length}
use Rattle.theory.specs.Mesh.{at, triangles, On, Same, OtherwiseProper}
use Rattle.theory.specs.Splitting.{split}
use Rattle.theory.specs.Reading.{Agreement, renamed, Matched, Reading, IsReading, Kept, Centre}
use Rattle.theory.proofs.Finite.{identity, identity-at, identity-match, composed, composed-at, composed-match}
use Rattle.theory.proofs.Mesh.{same_refl, same-sym, same-trans}
use Rattle.theory.proofs.Agreement.{Implies, same-implies, matched-same}
use Rattle.theory.proofs.Renaming.{on-renamed, renamed-on, renamed-identity, renamed-composed}
use Rattle.theory.proofs.Carried.{Carries, Carrying, vertices, faces, splits-agree, carries, carrying}
use Rattle.theory.proofs.Centres.{coarse_of}
use Rattle.theory.proofs.Rows.{Opposite, opposite-same}

-- an agreement that is carried along by matches and by splittings, and that the rows of a returned reading keep
pub record Lawful (agree : Agreement) : Type 0 where
  -- it implies "the same three vertices", and holds of what is equal
  pub implies : Implies agree
  pub reflexive : (T : List ℕ) (k : ℕ) → k < triangles T → agree T k T k
  pub symmetric : {T : List ℕ} {k : ℕ} {S : List ℕ} {l : ℕ} → agree T k S l → agree S l T k
  pub transitive : {T : List ℕ} {k : ℕ} {S : List ℕ} {l : ℕ} {U : List ℕ} {m : ℕ} → agree T k S l → agree S l U m
      → agree T k U m
  -- triangles that agree still do when both are renamed
  pub renames : (f : List ℕ) {T : List ℕ} {k : ℕ} {S : List ℕ} {l : ℕ} → agree T k S l
      → agree (renamed f T) k (renamed f S) l
  -- where proper meshes are matched by it, it holds of the triangles of their splittings
  pub splits : {f g κ : List ℕ} {M : ℕ} {C : List ℕ} {M' : ℕ} {C' : List ℕ} (K : Carrying f g κ M C M' C')
      → ((k : ℕ) → k < triangles C → agree (renamed f C) k C' (at g k)) → (t : ℕ) → t < 4 * triangles C
      → agree (renamed (vertices K).list (split M C)) t (split M' C') (at (faces K).list t)
  -- in a reading by it, it holds of a centre's coarse triangle, renumbered by f, and any triangle t that has at each
  -- corner the new number of the kept vertex opposite that corner of the centre
  pub rows : (N : ℕ) (T : List ℕ) → OtherwiseProper N T → (r : Reading) → IsReading agree N T r
      → (f S : List ℕ) (k t : ℕ) → Centre r k → 3 * t + 2 < length S
      → ((i w : ℕ) → i < 3 → Kept r w → Opposite T k i w → at S (3 * t + i) ≡ at f (at r.vertex_map w))
      → agree (renamed f r.mesh) (coarse_of r k) S t

-- triangles that are the same still are when both are renamed
same-renamed : (f : List ℕ) {T : List ℕ} {k : ℕ} {S : List ℕ} {l : ℕ} → Same T k S l
    → Same (renamed f T) k (renamed f S) l
same-renamed f {T} {k} {S} {l} s =
    record { there = λ y o. go s.there (renamed-on f o); back = λ y o. go s.back (renamed-on f o) }
  where
    go : {A B : List ℕ} {i j y : ℕ} → ((v : ℕ) → On A i v → On B j v) → (v : ℕ) × On A i v × (at f v ≡ y)
        → On (renamed f B) j y
    go {B = B} {j = j} to (v, o, e) = subst (On (renamed f B) j) e (on-renamed f (to v o))

-- "the same three vertices" is so
pub same-lawful : Lawful Same
same-lawful = record {
  implies = same-implies;
  reflexive = λ T k _. same_refl T k;
  symmetric = same-sym;
  transitive = same-trans;
  renames = same-renamed;
  splits = λ K _. splits-agree K;
  rows = opposite-same;
}

module _ {agree : Agreement} (A : Lawful agree) where
  -- a mesh is matched with itself
  pub matched-identity : (N : ℕ) (T : List ℕ) → ((c : ℕ) → c < length T → at T c < N)
      → Matched agree (identity N) (identity (triangles T)) N T N T
  matched-identity N T below = record {
    vertices = identity-match N;
    faces = identity-match (triangles T);
    agreed = λ k l. rw (renamed-identity N T below, identity-at (triangles T) k l) (A.reflexive T k l);
  }

  -- matches of meshes compose
  pub matched-composed : {f g f' g' T S U : List ℕ} {N M L : ℕ} → ((c : ℕ) → c < length T → at T c < N)
      → Matched agree f g N T M S → Matched agree f' g' M S L U
      → Matched agree (composed f f') (composed g g') N T L U
  matched-composed {f} {g} {f'} {g'} {T} {S} {U} below G H = record {
    vertices = composed-match G.vertices H.vertices;
    faces = composed-match G.faces H.faces;
    agreed = λ k l. rw (composed-at g g' k (omega (arith, G.faces.long)), twice)
        (A.transitive (A.renames f' (G.agreed k l)) (H.agreed (at g k) (G.faces.below k l)));
  }
    where
      twice : renamed (composed f f') T ≡ renamed f' (renamed f T)
      twice = renamed-composed f f' T (λ c l. omega (arith, G.vertices.long, below c l))

  -- where proper meshes are matched, so are their splittings
  pub carried : {f g : List ℕ} {M : ℕ} {C : List ℕ} {M' : ℕ} {C' : List ℕ} → OtherwiseProper M C
      → OtherwiseProper M' C' → Matched agree f g M C M' C' → Carries agree f g M C M' C'
  carried {f} {g} {M} {C} {M'} {C'} P P' G = go (carrying P P' (matched-same A.implies G))
    where
      go : (κ : List ℕ) × Carrying f g κ M C M' C' → Carries agree f g M C M' C'
      go (_, K) = carries K (A.splits K G.agreed)
