-- Whether two lists are equal, or two answers, or what is in two sets of output buffers, as tests that compute and pass
-- only where they are (`..-sound`).
use Prim.Native.Nat.{ℕ}
use mathlib.Core.Path.{◌≡◌, refl, ap₂}
use mathlib.Core.Bool.{Bool, true, false, ◌&&◌}
use mathlib.Core.List.{List, [], ◌∷◌}
use lib.Dec.{T as So, eqb, eqb→eq}
use Rattle.theory.specs.Calls.{Answer, OneAnswer, SeveralAnswer, Outputs}
use Rattle.theory.specs.Frames.{FramesAnswer}
use Rattle.theory.specs.Index.{TextAnswer}
use Rattle.theory.proofs.Tests.{and_sound, and₃-sound}

-- entry by entry
unfoldable pub equal_lists : List ℕ → List ℕ → Bool
equal_lists [] [] = true
equal_lists [] (y ∷ ys) = false
equal_lists (x ∷ xs) [] = false
equal_lists (x ∷ xs) (y ∷ ys) =
    let r : Bool = equal_lists xs ys in
    eqb x y && r

pub equal_lists-sound : (xs ys : List ℕ) → So (equal_lists xs ys) → xs ≡ ys
unfolding equal_lists
equal_lists-sound [] [] t = refl
equal_lists-sound [] (y ∷ ys) t = absurd t
equal_lists-sound (x ∷ xs) [] t = absurd t
equal_lists-sound (x ∷ xs) (y ∷ ys) t =
    let both = and_sound (eqb x y) (equal_lists xs ys) t in
    ap₂ (λ z zs. z ∷ zs) (eqb→eq x y both.0) (equal_lists-sound xs ys both.1)

-- four pairs of numbers
unfoldable pub equal_fours : (m n p q N M F G : ℕ) → Bool
equal_fours m n p q N M F G = (eqb m n && eqb p q) && (eqb N M && eqb F G)

fours-sound : (m n p q N M F G : ℕ) → So (equal_fours m n p q N M F G) → (m ≡ n) × (p ≡ q) × (N ≡ M) × (F ≡ G)
unfolding equal_fours
fours-sound m n p q N M F G t =
    let halves = and_sound (eqb m n && eqb p q) _ t in
    let front = and_sound (eqb m n) (eqb p q) halves.0 in
    let back = and_sound (eqb N M) (eqb F G) halves.1 in
    (eqb→eq m n front.0, eqb→eq p q front.1, eqb→eq N M back.0, eqb→eq F G back.1)

-- number by number
unfoldable pub equal_answers : Answer → Answer → Bool
unfolding equal_fours
equal_answers a b =
    equal_fours a.refusal b.refusal a.place b.place a.vertices b.vertices a.triangles b.triangles
    && (eqb a.edges b.edges && eqb a.boundary_edges b.boundary_edges)

pub equal_answers-sound : (a b : Answer) → So (equal_answers a b) → a ≡ b
unfolding equal_answers
equal_answers-sound a b t =
    let all = and₃-sound (equal_fours a.refusal b.refusal a.place b.place a.vertices b.vertices
    a.triangles b.triangles) (eqb a.edges b.edges) (eqb a.boundary_edges b.boundary_edges) t in
    joined (fours-sound _ _ _ _ _ _ _ _ all.0) (eqb→eq a.edges b.edges all.1)
    (eqb→eq a.boundary_edges b.boundary_edges all.2)
  where
    joined : {m n p q N M F G D E B C : ℕ} → (m ≡ n) × (p ≡ q) × (N ≡ M) × (F ≡ G) → D ≡ E → B ≡ C
        → Path Answer (record { refusal = m; place = p; vertices = N; triangles = F; edges = D; boundary_edges = B })
        (record { refusal = n; place = q; vertices = M; triangles = G; edges = E; boundary_edges = C })
    joined (d, e, f, g) h j = cc

-- of the answers for frames, the four numbers that they have
unfoldable pub equal_frames : FramesAnswer → FramesAnswer → Bool
unfolding equal_fours
equal_frames a b =
    equal_fours a.refusal b.refusal a.place b.place a.vertices b.vertices a.triangles b.triangles

pub equal_frames-sound : (a b : FramesAnswer) → So (equal_frames a b) → a ≡ b
unfolding equal_frames
equal_frames-sound a b t = joined (fours-sound _ _ _ _ _ _ _ _ t)
  where
    joined : {m n p q N M F G : ℕ} → (m ≡ n) × (p ≡ q) × (N ≡ M) × (F ≡ G)
        → Path FramesAnswer (record { refusal = m; place = p; vertices = N; triangles = F })
        (record { refusal = n; place = q; vertices = M; triangles = G })
    joined (d, e, f, g) = cc

-- and the bytes
unfoldable pub equal_texts : TextAnswer → TextAnswer → Bool
unfolding equal_frames
equal_texts a b = equal_frames a.common b.common && eqb a.bytes b.bytes

pub equal_texts-sound : (a b : TextAnswer) → So (equal_texts a b) → a ≡ b
unfolding equal_texts
equal_texts-sound a b t =
    let both = and_sound (equal_frames a.common b.common) (eqb a.bytes b.bytes) t in
    joined (equal_frames-sound a.common b.common both.0) (eqb→eq a.bytes b.bytes both.1)
  where
    joined : {d e : FramesAnswer} {m n : ℕ} → d ≡ e → m ≡ n
        → Path TextAnswer (record { common = d; bytes = m }) (record { common = e; bytes = n })
    joined f g = cc

-- or the role
unfoldable pub equal_ones : OneAnswer → OneAnswer → Bool
unfolding equal_answers
equal_ones a b = equal_answers a.common b.common && eqb a.role b.role

pub equal_ones-sound : (a b : OneAnswer) → So (equal_ones a b) → a ≡ b
unfolding equal_ones
equal_ones-sound a b t =
    let both = and_sound (equal_answers a.common b.common) (eqb a.role b.role) t in
    joined (equal_answers-sound a.common b.common both.0) (eqb→eq a.role b.role both.1)
  where
    joined : {d e : Answer} {ρ σ : ℕ} → d ≡ e → ρ ≡ σ
        → Path OneAnswer (record { common = d; role = ρ }) (record { common = e; role = σ })
    joined f g = cc

-- or the levels and roles
unfoldable pub equal_severals : SeveralAnswer → SeveralAnswer → Bool
unfolding equal_answers equal_lists
equal_severals a b =
    equal_answers a.common b.common && (eqb a.levels b.levels && equal_lists a.roles b.roles)

pub equal_severals-sound : (a b : SeveralAnswer) → So (equal_severals a b) → a ≡ b
unfolding equal_severals
equal_severals-sound a b t =
    let all = and₃-sound (equal_answers a.common b.common) (eqb a.levels b.levels)
    (equal_lists a.roles b.roles) t in
    joined (equal_answers-sound a.common b.common all.0) (eqb→eq a.levels b.levels all.1)
    (equal_lists-sound a.roles b.roles all.2)
  where
    joined : {d e : Answer} {l m : ℕ} {ρs σs : List ℕ} → d ≡ e → l ≡ m → ρs ≡ σs
        → Path SeveralAnswer (record { common = d; levels = l; roles = ρs })
        (record { common = e; levels = m; roles = σs })
    joined f g h = cc

-- buffer by buffer
unfoldable pub equal_outputs : Outputs → Outputs → Bool
unfolding equal_lists
equal_outputs a b =
    equal_lists a.mesh b.mesh
    && (equal_lists a.vertex_map b.vertex_map && equal_lists a.triangle_map b.triangle_map)

pub equal_outputs-sound : (a b : Outputs) → So (equal_outputs a b) → a ≡ b
unfolding equal_outputs
equal_outputs-sound a b t =
    let all = and₃-sound (equal_lists a.mesh b.mesh) (equal_lists a.vertex_map b.vertex_map)
    (equal_lists a.triangle_map b.triangle_map) t in
    joined (equal_lists-sound a.mesh b.mesh all.0) (equal_lists-sound a.vertex_map b.vertex_map all.1)
    (equal_lists-sound a.triangle_map b.triangle_map all.2)
  where
    joined : {A B f g h j : List ℕ} → A ≡ B → f ≡ g → h ≡ j
        → Path Outputs (record { mesh = A; vertex_map = f; triangle_map = h })
        (record { mesh = B; vertex_map = g; triangle_map = j })
    joined d e i = cc
