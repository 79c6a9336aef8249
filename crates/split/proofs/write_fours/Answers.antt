-- `split::write_fours` meets its contract.
use Rattle.std.proofs.Common.{◌≡◌, ◌∙◌, ap, refl, ℕ, ◌+◌, ◌*◌, ◌≤◌, List, ◌++◌, length, drop, length-append, length-drop, add-one, arith}
use lib.Seq.{sets}
use Rattle.theory.specs.Mesh.{triangles}
use Rattle.theory.specs.Splitting.{edge_no, four, fours, split}
use Rattle.theory.proofs.Splitting.{split-length}
use Rattle.lists.specs.Tables.{Tabulated}
use Rattle.split.specs.Fours.{four_of}
use Rattle.lists.proofs.Stores.{sets-front}
use Rattle.split.proofs.write_fours.Goals as goal

-- by the table of the edge vertices' numbers, the four triangles are those of the splitting
four_of-four : (N : ℕ) (T : List ℕ) (k : ℕ) {n : ℕ} {numbers : List ℕ} → Tabulated (edge_no N T) n numbers → 3 * k + 3 ≤ n
    → four_of T numbers k ≡ four N T k
unfolding four_of four
four_of-four N T k t l =
    rw (t.entry (3 * k) (omega arith), t.entry (3 * k + 1) (omega arith), t.entry (3 * k + 2) (omega arith))

-- one triangle more gives the twelve entries after those before
fours-more : (N : ℕ) (T ys : List ℕ) (k : ℕ) → length (fours N T k) ≡ 12 * k → 12 * k + 12 ≤ length ys
    → sets (fours N T k ++ drop (12 * k) ys) (12 * k) (four N T k) ≡ fours N T (k + 1) ++ drop (12 * (k + 1)) ys
unfolding fours four
fours-more N T ys k long room =
    let e : 12 * (k + 1) ≡ 12 * k + 12 = omega arith in
    sets-front (fours N T k) ys (12 * k) long (four N T k) room ∙ rw (e, add-one k)

-- the four triangles of triangle k are written
turned : (N : ℕ) (T out₀ : List ℕ) (k : ℕ) {n : ℕ} {numbers out : List ℕ} → Tabulated (edge_no N T) n numbers → 3 * k + 3 ≤ n
    → 12 * k + 12 ≤ length out₀ → length out ≡ length out₀ → out ≡ fours N T k ++ drop (12 * k) out₀
    → sets out (12 * k) (four_of T numbers k) ≡ fours N T (k + 1) ++ drop (12 * (k + 1)) out₀
turned N T out₀ k t l room long begins =
    let fours_long : length (fours N T k) ≡ 12 * k =
    omega (arith, simp (length-append, length-drop) at (ap length begins)) in
    rw (four_of-four N T k t l, begins) (fours-more N T out₀ k fours_long room)

pub loop-k-init : goal.loop-k-init
unfolding fours
loop-k-init c N t = refl

pub loop-k-preserved : goal.loop-k-preserved
loop-k-preserved c N t =
    c.write_four.ensures
    ∙ turned N _ _ _ t (omega arith) (omega arith) c.loop-k.auto.out (c.loop-k.invariant N t)

pub returns : goal.returns
unfolding split
returns c N t =
    let T = c.args.list.now in
    let e : c.loop-k.k ≡ triangles T = omega (arith, c.loop-k.auto.k-end, c.requires.whole) in
    rw (split-length N T) (rw e at (c.loop-k.invariant N t))
