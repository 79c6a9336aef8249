-- A match, a reading, a role and the returned reading are decided, for any agreement that a test decides, as in
-- `Decide`: a Bool test that computes (`..Test`), a proof that it passes only where it is so (`..-sound`) and one
-- that it passes wherever it is so (`..-complete`), and the decisions made from these (`is_reading?`, `returned?`).
use Prim.Native.Nat.{ℕ, zero, suc, ◌+◌, ◌*◌, ◌/◌, ◌%◌, ◌<◌}
use native.Mathlib.Omega.{arith}
use mathlib.Core.Path.{◌≡◌, refl}
use mathlib.Core.Bool.{Bool, not, ◌&&◌}
use mathlib.Core.List.{List}
use lib.Dec.{T as So, T_not, not_T, eqb, ltb, eqb→eq, ltb→lt, lt→ltb}
use lib.ListN.{length}
use Rattle.theory.specs.Mesh.{at, triangles, On, Same, Rotated}
use Rattle.theory.specs.Counting.{count, first_from}
use Rattle.theory.specs.Splitting.{same_edge, first_on, is_first, edges, edge_no, four, fours, split}
use Rattle.theory.specs.Reading.{Agreement, Match, Matched, renamed, Reading, IsReading, Kept, Centre, Across}
use Rattle.theory.specs.Reading.{RoleOf, centre, corner, Returned}
use Rattle.theory.proofs.Tests.{
  decided,
  and_sound,
  and-complete,
  and₃-sound,
  and₃-complete,
  and₅-sound,
  and₅-complete,
  implies,
  implies-sound,
  implies-complete,
  eq→eqb,
  all_below,
  all_below-sound,
  all_below-complete,
  some_below,
  some_below-sound,
  some_below-complete,
  all_apart,
  all_apart-sound,
  all_apart-complete,
  upward_test,
  upward_test-sound,
  upward_test-complete,
}
use Rattle.theory.proofs.Decide.{on-le, below_test, below_test-sound, below_test-complete}
use Rattle.theory.proofs.Decide.{used_test, used_test-sound, used_test-complete}
use Rattle.theory.proofs.Decide.{has_edge_test, has_edge_test-sound, has_edge_test-complete}
use Rattle.theory.proofs.Decide.{same_test, same_test-sound, same_test-complete}
use Rattle.theory.proofs.Decide.{rotated_test, rotated_test-sound, rotated_test-complete}
use Rattle.theory.proofs.Decide.{proper_test, proper_test-sound, proper_test-complete}

-- ---- Match

-- as long as it says, below n, no entry twice, and each number below n is an entry
unfoldable pub match_test : List ℕ → ℕ → ℕ → Bool
unfolding below_test all_apart used_test
match_test f m n = eqb (length f) m && (below_test n f && (all_apart f && used_test n f))

pub match_test-sound : (f : List ℕ) (m n : ℕ) → So (match_test f m n) → Match f m n
unfolding match_test
match_test-sound f m n t = go (and₃-sound (eqb (length f) m) (below_test n f) (all_apart f && used_test n f) t)
  where
    place : (y : ℕ) → length f ≡ m → (k : ℕ) × On f k y → (i : ℕ) × (i < m) × (at f i ≡ y)
    place y long (k, o) = (o.corner, omega (arith, o.inside), o.holds)

    made : length f ≡ m → So (below_test n f) → So (all_apart f) × So (used_test n f) → Match f m n
    made long b (a, u) = record {
      long = long;
      below = λ i l. below_test-sound n f b i (omega arith);
      apart = λ i j k l. all_apart-sound f a i j (omega arith) (omega arith);
      onto = λ y l. place y long (used_test-sound n f u y l);
    }

    go : So (eqb (length f) m) × So (below_test n f) × So (all_apart f && used_test n f) → Match f m n
    go (e, b, r) = made (eqb→eq (length f) m e) b (and_sound (all_apart f) (used_test n f) r)

pub match_test-complete : (f : List ℕ) (m n : ℕ) → Match f m n → So (match_test f m n)
unfolding match_test
match_test-complete f m n F =
    and₃-complete (eqb (length f) m) (below_test n f) (all_apart f && used_test n f) (eq→eqb (length f) m F.long)
    (below_test-complete n f (λ c l. F.below c (omega (arith, F.long))))
    (and-complete (all_apart f) (used_test n f)
    (all_apart-complete f (λ i j k l. F.apart i j (omega (arith, F.long)) (omega (arith, F.long))))
    (used_test-complete n f (λ y l. go y (F.onto y l))))
  where
    go : (y : ℕ) → (i : ℕ) × (i < m) × (at f i ≡ y) → (k : ℕ) × On f k y
    go y (i, l, e) =
        (i / 3, record { corner = i; inside = omega (arith, F.long); triangle = refl; holds = e })

-- ---- Matched

-- A test of two triangles ..
abbrev pub AgreementTest : Type 0
AgreementTest = List ℕ → ℕ → List ℕ → ℕ → Bool

-- .. passes exactly where they agree
pub record Decides (agree : Agreement) (test : AgreementTest) : Type 0 where
  pub sound : (T : List ℕ) (k : ℕ) (S : List ℕ) (l : ℕ) → So (test T k S l) → agree T k S l
  pub complete : (T : List ℕ) (k : ℕ) (S : List ℕ) (l : ℕ) → agree T k S l → So (test T k S l)

-- as `same_test` does for "the same three vertices"
pub same-decided : Decides Same same_test
same-decided = record { sound = same_test-sound; complete = same_test-complete }

-- and `rotated_test` for "up to rotation of corners"
pub rotated-decided : Decides Rotated rotated_test
rotated-decided = record { sound = rotated_test-sound; complete = rotated_test-complete }

-- each triangle, renamed, agrees with its match
unfoldable pub agreed_test : AgreementTest → List ℕ → List ℕ → List ℕ → List ℕ → Bool
unfolding all_below renamed
agreed_test test f g T S =
    let there : List ℕ = renamed f T in
    all_below (λ k. test there k S (at g k)) (triangles T)

-- both are matches, and matched triangles agree
unfoldable pub matched_test : AgreementTest → List ℕ → List ℕ → ℕ → List ℕ → ℕ → List ℕ → Bool
unfolding match_test agreed_test
matched_test test f g N T M S =
    match_test f N M && (match_test g (triangles T) (triangles S) && agreed_test test f g T S)

module _ {agree : Agreement} {test : AgreementTest} (D : Decides agree test) where
  agreed_test-sound : (f g T S : List ℕ) → So (agreed_test test f g T S)
      → (k : ℕ) → k < triangles T → agree (renamed f T) k S (at g k)
  unfolding agreed_test
  agreed_test-sound f g T S t k l = D.sound (renamed f T) k S (at g k) (all_below-sound _ (triangles T) t k l)

  agreed_test-complete : (f g T S : List ℕ) → ((k : ℕ) → k < triangles T → agree (renamed f T) k S (at g k))
      → So (agreed_test test f g T S)
  unfolding agreed_test
  agreed_test-complete f g T S agreed =
      all_below-complete _ (triangles T) (λ k l. D.complete (renamed f T) k S (at g k) (agreed k l))

  pub matched_test-sound : (f g : List ℕ) (N : ℕ) (T : List ℕ) (M : ℕ) (S : List ℕ)
      → So (matched_test test f g N T M S) → Matched agree f g N T M S
  unfolding matched_test
  matched_test-sound f g N T M S t =
      go (and₃-sound (match_test f N M) (match_test g (triangles T) (triangles S)) (agreed_test test f g T S) t)
    where
      go : So (match_test f N M) × So (match_test g (triangles T) (triangles S)) × So (agreed_test test f g T S)
          → Matched agree f g N T M S
      go (a, b, c) = record {
        vertices = match_test-sound f N M a;
        faces = match_test-sound g (triangles T) (triangles S) b;
        agreed = agreed_test-sound f g T S c;
      }

  pub matched_test-complete : (f g : List ℕ) (N : ℕ) (T : List ℕ) (M : ℕ) (S : List ℕ)
      → Matched agree f g N T M S → So (matched_test test f g N T M S)
  unfolding matched_test
  matched_test-complete f g N T M S F =
      and₃-complete (match_test f N M) (match_test g (triangles T) (triangles S)) (agreed_test test f g T S)
      (match_test-complete f N M F.vertices) (match_test-complete g (triangles T) (triangles S) F.faces)
      (agreed_test-complete f g T S F.agreed)

-- ---- IsReading

-- the coarse mesh is proper, and the input is matched onto its splitting
unfoldable pub is_reading_test : AgreementTest → ℕ → List ℕ → Reading → Bool
unfolding proper_test matched_test split fours four edge_no edges is_first first_on same_edge count first_from
is_reading_test test N T r =
    proper_test r.vertices r.mesh
    && matched_test test r.vertex_map r.triangle_map N T (r.vertices + edges r.mesh)
    (split r.vertices r.mesh)

module _ {agree : Agreement} {test : AgreementTest} (D : Decides agree test) where
  pub is_reading_test-sound : (N : ℕ) (T : List ℕ) (r : Reading) → So (is_reading_test test N T r) → IsReading agree N T r
  unfolding is_reading_test
  is_reading_test-sound N T r t = go (and_sound (proper_test r.vertices r.mesh) _ t)
    where
      go : So (proper_test r.vertices r.mesh) × So (matched_test test r.vertex_map r.triangle_map N T
          (r.vertices + edges r.mesh) (split r.vertices r.mesh)) → IsReading agree N T r
      go (p, m) = record {
        proper = proper_test-sound r.vertices r.mesh p;
        matched = matched_test-sound D r.vertex_map r.triangle_map N T _ _ m;
      }

  pub is_reading_test-complete : (N : ℕ) (T : List ℕ) (r : Reading) → IsReading agree N T r
      → So (is_reading_test test N T r)
  unfolding is_reading_test
  is_reading_test-complete N T r R =
      and-complete (proper_test r.vertices r.mesh) _ (proper_test-complete r.vertices r.mesh R.proper)
      (matched_test-complete D r.vertex_map r.triangle_map N T _ _ R.matched)

  unfoldable pub is_reading? : (N : ℕ) (T : List ℕ) (r : Reading) → Dec (IsReading agree N T r)
  unfolding is_reading_test
  is_reading? N T r = decided (is_reading_test test N T r) (is_reading_test-sound N T r) (is_reading_test-complete N T r)

-- ---- RoleOf

-- v is inside the map and matched to a coarse vertex
unfoldable pub kept_test : Reading → ℕ → Bool
kept_test r v = ltb v (length r.vertex_map) && ltb (at r.vertex_map v) r.vertices

pub kept_test-sound : (r : Reading) (v : ℕ) → So (kept_test r v) → Kept r v
unfolding kept_test
kept_test-sound r v t = go (and_sound (ltb v (length r.vertex_map)) (ltb (at r.vertex_map v) r.vertices) t)
  where
    go : So (ltb v (length r.vertex_map)) × So (ltb (at r.vertex_map v) r.vertices) → Kept r v
    go (a, b) = record { inside = ltb→lt _ _ a; coarse = ltb→lt _ _ b }

pub kept_test-complete : (r : Reading) (v : ℕ) → Kept r v → So (kept_test r v)
unfolding kept_test
kept_test-complete r v q =
    and-complete (ltb v (length r.vertex_map)) (ltb (at r.vertex_map v) r.vertices)
    (lt→ltb _ _ q.inside) (lt→ltb _ _ q.coarse)

-- k is inside the map and matched to some 4j
unfoldable pub centre_test : Reading → ℕ → Bool
centre_test r k = ltb k (length r.triangle_map) && eqb (at r.triangle_map k % 4) 0

pub centre_test-sound : (r : Reading) (k : ℕ) → So (centre_test r k) → Centre r k
unfolding centre_test
centre_test-sound r k t = go (and_sound (ltb k (length r.triangle_map)) (eqb (at r.triangle_map k % 4) 0) t)
  where
    go : So (ltb k (length r.triangle_map)) × So (eqb (at r.triangle_map k % 4) 0) → Centre r k
    go (a, b) = record { inside = ltb→lt _ _ a; fourth = eqb→eq _ 0 b }

pub centre_test-complete : (r : Reading) (k : ℕ) → Centre r k → So (centre_test r k)
unfolding centre_test
centre_test-complete r k c =
    and-complete (ltb k (length r.triangle_map)) (eqb (at r.triangle_map k % 4) 0)
    (lt→ltb _ _ c.inside) (eq→eqb _ 0 c.fourth)

-- 0 for a centre, 1 + i where corner i is kept
unfoldable pub role_test : List ℕ → Reading → ℕ → ℕ → Bool
unfolding kept_test centre_test
role_test T r k zero = centre_test r k
role_test T r k (suc i) = ltb i 3 && (ltb k (triangles T) && kept_test r (at T (3 * k + i)))

pub role_test-sound : (T : List ℕ) (r : Reading) (k role : ℕ) → So (role_test T r k role) → RoleOf T r k role
unfolding role_test
role_test-sound T r k zero t = centre (centre_test-sound r k t)
role_test-sound T r k (suc i) t =
    go (and₃-sound (ltb i 3) (ltb k (triangles T)) (kept_test r (at T (3 * k + i))) t)
  where
    go : So (ltb i 3) × So (ltb k (triangles T)) × So (kept_test r (at T (3 * k + i))) → RoleOf T r k (suc i)
    go (a, b, c) = corner i (ltb→lt i 3 a) (ltb→lt k (triangles T) b) (kept_test-sound r (at T (3 * k + i)) c)

pub role_test-complete : (T : List ℕ) (r : Reading) (k role : ℕ) → RoleOf T r k role → So (role_test T r k role)
unfolding role_test
role_test-complete T r k zero (centre c) = centre_test-complete r k c
role_test-complete T r k (suc i) (corner j a b c) =
    and₃-complete (ltb i 3) (ltb k (triangles T)) (kept_test r (at T (3 * k + i)))
    (lt→ltb i 3 a) (lt→ltb k (triangles T) b) (kept_test-complete r (at T (3 * k + i)) c)

-- ---- rows

-- another triangle has the edges w-u and w-v
unfoldable pub across_test : List ℕ → ℕ → ℕ → ℕ → ℕ → Bool
unfolding some_below has_edge_test
across_test T k u v w =
    some_below (λ l. not (eqb l k) && (has_edge_test T l w u && has_edge_test T l w v)) (triangles T + 1)

pub across_test-sound : (T : List ℕ) (k u v w : ℕ) → So (across_test T k u v w) → Across T k u v w
unfolding across_test
across_test-sound T k u v w t = found (some_below-sound _ (triangles T + 1) t)
  where
    made : (l : ℕ) → So (not (eqb l k)) × So (has_edge_test T l w u) × So (has_edge_test T l w v) → Across T k u v w
    made l (n, a, b) = record {
      other = l;
      another = λ e. T_not (eqb l k) n (eq→eqb l k e);
      has_u = (has_edge_test-sound T l w u a).other_end;
      has_v = (has_edge_test-sound T l w v b).other_end;
      has_w = (has_edge_test-sound T l w u a).one_end;
      not_u = (has_edge_test-sound T l w u a).differ;
      not_v = (has_edge_test-sound T l w v b).differ;
    }

    found : (l : ℕ) × (l < triangles T + 1)
        × So (not (eqb l k) && (has_edge_test T l w u && has_edge_test T l w v)) → Across T k u v w
    found (l, b, s) = made l (and₃-sound (not (eqb l k)) (has_edge_test T l w u) (has_edge_test T l w v) s)

pub across_test-complete : (T : List ℕ) (k u v w : ℕ) → Across T k u v w → So (across_test T k u v w)
unfolding across_test
across_test-complete T k u v w a =
    some_below-complete _ (triangles T + 1) a.other (omega (arith, on-le a.has_w))
    (and₃-complete (not (eqb a.other k)) (has_edge_test T a.other w u) (has_edge_test T a.other w v)
    (not_T (eqb a.other k) (λ t. a.another (eqb→eq a.other k t)))
    (has_edge_test-complete T a.other w u (record { differ = a.not_u; one_end = a.has_w; other_end = a.has_u }))
    (has_edge_test-complete T a.other w v (record { differ = a.not_v; one_end = a.has_w; other_end = a.has_v })))

-- some kept vertex across the edge u-v from k is matched to y
abbrev KeptAcross : List ℕ → Reading → ℕ → ℕ → ℕ → ℕ → Type 0
KeptAcross T r k u v y = (w : ℕ) × Kept r w × Across T k u v w × (y ≡ at r.vertex_map w)

-- w is such a vertex
unfoldable pub is_across_test : List ℕ → Reading → ℕ → ℕ → ℕ → ℕ → ℕ → Bool
unfolding kept_test across_test
is_across_test T r k u v y w = kept_test r w && (eqb y (at r.vertex_map w) && across_test T k u v w)

-- there is such a vertex
unfoldable pub kept_across_test : List ℕ → Reading → ℕ → ℕ → ℕ → ℕ → Bool
unfolding some_below is_across_test
kept_across_test T r k u v y = some_below (is_across_test T r k u v y) (length r.vertex_map)

kept_across_test-sound : (T : List ℕ) (r : Reading) (k u v y : ℕ)
    → So (kept_across_test T r k u v y) → KeptAcross T r k u v y
unfolding kept_across_test
kept_across_test-sound T r k u v y t = found (some_below-sound (is_across_test T r k u v y) (length r.vertex_map) t)
  where
    made : (w : ℕ) → So (kept_test r w) × So (eqb y (at r.vertex_map w)) × So (across_test T k u v w)
        → KeptAcross T r k u v y
    made w (a, b, c) = (w, kept_test-sound r w a, across_test-sound T k u v w c, eqb→eq y (at r.vertex_map w) b)

    found : (w : ℕ) × (w < length r.vertex_map) × So (is_across_test T r k u v y w) → KeptAcross T r k u v y
    found (w, l, s) = made w (and₃-sound (kept_test r w) (eqb y (at r.vertex_map w)) (across_test T k u v w) s)

kept_across_test-complete : (T : List ℕ) (r : Reading) (k u v y : ℕ)
    → KeptAcross T r k u v y → So (kept_across_test T r k u v y)
unfolding kept_across_test
kept_across_test-complete T r k u v y (w, q, a, e) =
    some_below-complete (is_across_test T r k u v y) (length r.vertex_map) w q.inside
    (and₃-complete (kept_test r w) (eqb y (at r.vertex_map w)) (across_test T k u v w)
    (kept_test-complete r w q) (eq→eqb y (at r.vertex_map w) e) (across_test-complete T k u v w a))

-- the edge of k that ends at its corner i, and what stands at corner i of the coarse triangle of k
abbrev edge_from : List ℕ → ℕ → ℕ → ℕ
edge_from T k i = at T (3 * k + (i + 2) % 3)

abbrev edge_to : List ℕ → ℕ → ℕ → ℕ
edge_to T k i = at T (3 * k + i)

abbrev entry : Reading → ℕ → ℕ → ℕ
entry r k i = at r.mesh (3 * (at r.triangle_map k / 4) + i)

-- what `Returned` asks of centre k and i
abbrev Row : List ℕ → Reading → ℕ → ℕ → Type 0
Row T r k i = KeptAcross T r k (edge_from T k i) (edge_to T k i) (entry r k i)

unfoldable pub row_test : List ℕ → Reading → ℕ → ℕ → Bool
unfolding kept_across_test
row_test T r k i = kept_across_test T r k (edge_from T k i) (edge_to T k i) (entry r k i)

-- each centre has its row
unfoldable pub rows_test : List ℕ → Reading → Bool
unfolding all_below centre_test row_test
rows_test T r = all_below (λ k. implies (centre_test r k) (all_below (row_test T r k) 3)) (length r.triangle_map)

rows_test-sound : (T : List ℕ) (r : Reading) → So (rows_test T r) → (k i : ℕ) → Centre r k → i < 3 → Row T r k i
unfolding rows_test
rows_test-sound T r t k i c l =
    kept_across_test-sound T r k (edge_from T k i) (edge_to T k i) (entry r k i)
    (all_below-sound (row_test T r k) 3 (implies-sound (centre_test r k) (all_below (row_test T r k) 3)
    (all_below-sound _ (length r.triangle_map) t k c.inside) (centre_test-complete r k c)) i l)

rows_test-complete : (T : List ℕ) (r : Reading) → ((k i : ℕ) → Centre r k → i < 3 → Row T r k i) → So (rows_test T r)
unfolding rows_test
rows_test-complete T r rows =
    all_below-complete _ (length r.triangle_map) (λ k l.
    implies-complete (centre_test r k) (all_below (row_test T r k) 3) (λ t.
    all_below-complete (row_test T r k) 3 (λ i b.
    kept_across_test-complete T r k (edge_from T k i) (edge_to T k i) (entry r k i)
    (rows k i (centre_test-sound r k t) b))))

-- ---- Returned

-- a reading in the role, the kept vertices and the centres upward, and the rows
unfoldable pub returned_test : AgreementTest → ℕ → List ℕ → ℕ → Reading → Bool
unfolding is_reading_test role_test upward_test rows_test
returned_test test N T role r =
    is_reading_test test N T r
    && (role_test T r 0 role
    && (upward_test (kept_test r) r.vertex_map && (upward_test (centre_test r) r.triangle_map && rows_test T r)))

module _ {agree : Agreement} {test : AgreementTest} (D : Decides agree test) where
  pub returned_test-sound : (N : ℕ) (T : List ℕ) (role : ℕ) (r : Reading) → So (returned_test test N T role r)
      → Returned agree N T role r
  unfolding returned_test
  returned_test-sound N T role r t =
      go (and₅-sound (is_reading_test test N T r) (role_test T r 0 role) (upward_test (kept_test r) r.vertex_map)
      (upward_test (centre_test r) r.triangle_map) (rows_test T r) t)
    where
      go : So (is_reading_test test N T r) × So (role_test T r 0 role) × So (upward_test (kept_test r) r.vertex_map)
          × So (upward_test (centre_test r) r.triangle_map) × So (rows_test T r) → Returned agree N T role r
      go (a, b, c, d, e) = record {
        is = is_reading_test-sound D N T r a;
        in_role = role_test-sound T r 0 role b;
        kept_upward = λ u v p q. upward_test-sound (kept_test r) r.vertex_map c u v q.inside
            (kept_test-complete r u p) (kept_test-complete r v q);
        centres_upward = λ j k p q. upward_test-sound (centre_test r) r.triangle_map d j k q.inside
            (centre_test-complete r j p) (centre_test-complete r k q);
        rows = rows_test-sound T r e;
      }

  pub returned_test-complete : (N : ℕ) (T : List ℕ) (role : ℕ) (r : Reading) → Returned agree N T role r
      → So (returned_test test N T role r)
  unfolding returned_test
  returned_test-complete N T role r R =
      and₅-complete (is_reading_test test N T r) (role_test T r 0 role) (upward_test (kept_test r) r.vertex_map)
      (upward_test (centre_test r) r.triangle_map) (rows_test T r)
      (is_reading_test-complete D N T r R.is) (role_test-complete T r 0 role R.in_role)
      (upward_test-complete (kept_test r) r.vertex_map
      (λ u v p q. R.kept_upward u v (kept_test-sound r u p) (kept_test-sound r v q)))
      (upward_test-complete (centre_test r) r.triangle_map
      (λ j k p q. R.centres_upward j k (centre_test-sound r j p) (centre_test-sound r k q)))
      (rows_test-complete T r R.rows)

  unfoldable pub returned? : (N : ℕ) (T : List ℕ) (role : ℕ) (r : Reading) → Dec (Returned agree N T role r)
  unfolding returned_test
  returned? N T role r =
      decided (returned_test test N T role r) (returned_test-sound N T role r) (returned_test-complete N T role r)
