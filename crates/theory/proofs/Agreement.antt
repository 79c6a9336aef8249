-- Agreements that imply "the same three vertices". A reading by one of them is a reading by `Same`, so that the laws of
-- readings whose conclusions do not speak of the agreement are stated once, at `Same`, and serve every one. `Lawful`
-- holds what the others ask of theirs.
use Prim.Native.Nat.{ℕ}
use mathlib.Core.List.{List}
use Rattle.theory.specs.Mesh.{Same}
use Rattle.theory.specs.Reading.{Agreement, Matched, Reading, IsReading, ReadingIn, Returned}

-- triangles that agree have the same three vertices
pub record Implies (agree : Agreement) : Type 0 where
  pub same : {T : List ℕ} {k : ℕ} {S : List ℕ} {l : ℕ} → agree T k S l → Same T k S l

-- as those that are the same have
pub same-implies : Implies Same
same-implies = record { same = λ s. s }

module _ {agree : Agreement} (I : Implies agree) where
  -- a match of meshes is one by `Same`
  pub matched-same : {f g : List ℕ} {N : ℕ} {T : List ℕ} {M : ℕ} {S : List ℕ}
      → Matched agree f g N T M S → Matched Same f g N T M S
  matched-same G = record { vertices = G.vertices; faces = G.faces; agreed = λ k l. I.same (G.agreed k l) }

  -- a reading
  pub reading-same : {N : ℕ} {T : List ℕ} {r : Reading} → IsReading agree N T r → IsReading Same N T r
  reading-same R = record { proper = R.proper; matched = matched-same R.matched }

  -- a reading in a role
  pub reading_in-same : {N : ℕ} {T : List ℕ} {role : ℕ} → ReadingIn agree N T role → ReadingIn Same N T role
  reading_in-same R = record { reading = R.reading; is = reading-same R.is; in_role = R.in_role }

  -- and the returned reading
  pub returned-same : {N : ℕ} {T : List ℕ} {role : ℕ} {r : Reading} → Returned agree N T role r
      → Returned Same N T role r
  returned-same R = record {
    is = reading-same R.is;
    in_role = R.in_role;
    kept_upward = R.kept_upward;
    centres_upward = R.centres_upward;
    rows = R.rows;
  }
