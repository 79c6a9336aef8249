-- Laws of bytes that are put into a buffer one after the other.
use Prim.Native.Nat.{ℕ, zero, suc, ◌+◌, ◌-◌, ◌*◌, ◌≤◌, ◌<◌}
use native.Mathlib.Nat.{zero-add}
use native.Mathlib.Numerals.{add-one}
use native.Mathlib.Omega.{arith}
use mathlib.Core.Path.{◌≡◌, refl, sym, ap, ◌∙◌}
use mathlib.Core.List.{List, [], ◌∷◌, ◌++◌, append_assoc, append-nil}
use lib.ListN.{length, length-append, take}
use lib.Seq.{sets-eq, take-suc, take_all}
use Rattle.theory.specs.Calls.{written}
use Rattle.theory.specs.Mesh.{at, triangles}
use Rattle.theory.specs.Frames.{two_digits, four_digits, line, mesh_line, triangle_line, triangle_lines}
use Rattle.theory.specs.Program.{answer_line, map_lines}
use Rattle.lists.proofs.Stores.{sets-append}
use Rattle.frames_write.specs.declared.puts.Writer.{Writer}
use Rattle.frames_write.specs.Putting.{Room, Put}

-- ---- putting

-- two parts one after the other are one
pub put_next : {xs ys : List ℕ} {w₀ w w' : Writer} → Put xs w₀ w → Put ys w w' → Put (xs ++ ys) w₀ w'
put_next {xs} {ys} {w₀} p q = record {
  ends = simp length-append (omega (arith, p.ends, q.ends));
  puts = q.puts ∙ rw (p.puts, p.ends) (sets-append w₀.bytes.now w₀.place xs ys);
  long = q.long ∙ p.long;
  same = q.same ∙ p.same;
}

-- what is put from the front of a buffer on is written
pub put_written : {new out : List ℕ} {w w' : Writer} → Put new w w' → w.bytes.now ≡ out → w.place ≡ 0
    → length new ≤ length out → w'.bytes.now ≡ written new out
put_written {new} {out} {w} {w'} p e z l =
    (rw (e, z) at p.puts) ∙ sets-eq new out 0 (omega arith) ∙ rw zero-add

-- ---- room

-- at the front of a buffer there is for what is no longer
pub front-room : {new out : List ℕ} {w : Writer} → w.bytes.now ≡ out → w.place ≡ 0 → length new ≤ length out
    → Room new w
front-room e z l = record { fits = omega (arith, ap length e) }

-- ---- lines in a row

-- prefixes of a row of n parts, each of one part more
pub record Row (prefix part : ℕ → List ℕ) (n : ℕ) : Type 0 where
  pub more : (k : ℕ) → k < n → prefix (k + 1) ≡ prefix k ++ part k

-- no prefix is longer than the row
prefix-short : {prefix part : ℕ → List ℕ} {n : ℕ} → Row prefix part n → (d m : ℕ) → m + d ≡ n
    → length (prefix m) ≤ length (prefix n)
prefix-short {n = n} R zero m e =
    let same : m ≡ n = omega arith in
    rw same (omega arith)
prefix-short R (suc d) m e =
    omega (
      arith,
      prefix-short R d (m + 1) (omega arith),
      simp length-append at (ap length (R.more m (omega arith))),
    )

-- where there is room for a row, of which k parts are put, there is for the next part
pub row_room : {prefix part : ℕ → List ℕ} {n : ℕ} {w₀ w : Writer} {k : ℕ} → Row prefix part n → Room (prefix n) w₀
    → Put (prefix k) w₀ w → k < n → Room (part k) w
row_room {n = n} {k = k} R r p l = record {
  fits =
      omega (
        arith,
        prefix-short R (n - (k + 1)) (k + 1) (omega arith),
        simp length-append at (ap length (R.more k l)),
      );
}

-- once it is put, k + 1 are
pub row_more : {prefix part : ℕ → List ℕ} {n : ℕ} {w₀ w w' : Writer} {k : ℕ} → Row prefix part n → k < n
    → Put (prefix k) w₀ w → Put (part k) w w' → Put (prefix (k + 1)) w₀ w'
row_more {k = k} R l p q = rw (R.more k l) (put_next p q)

-- ---- the lines of a mesh

-- its frames, a row of lines after the mesh line
abbrev pub framed : ℕ → List ℕ → ℕ → List ℕ
framed N T k = mesh_line N (triangles T) ++ triangle_lines T k

pub framed-row : (N : ℕ) (T : List ℕ) (n : ℕ) → Row (framed N T) (triangle_line T) n
unfolding triangle_lines
framed-row N T n =
    record { more = λ k l. rw add-one (sym (append_assoc (mesh_line N (triangles T)) (triangle_lines T k) (triangle_line T k))) }

-- ---- the lines of a map

-- the lines of entries one after the other
map_lines-append : (kind : ℕ) (xs ys : List ℕ) → map_lines kind (xs ++ ys) ≡ map_lines kind xs ++ map_lines kind ys
unfolding map_lines
map_lines-append kind [] ys = refl
map_lines-append kind (x ∷ xs) ys =
    rw (map_lines-append kind xs ys)
    (sym (append_assoc (line kind (four_digits x)) (map_lines kind xs) (map_lines kind ys)))

-- those of the first entries, a row
abbrev pub mapped : ℕ → List ℕ → ℕ → List ℕ
mapped kind xs k = map_lines kind (take k xs)

abbrev pub entry_line : ℕ → List ℕ → ℕ → List ℕ
entry_line kind xs k = line kind (four_digits (at xs k))

pub mapped-row : (kind : ℕ) (xs : List ℕ) → Row (mapped kind xs) (entry_line kind xs) (length xs)
unfolding map_lines
mapped-row kind xs = record {
  more = λ k l.
      rw (add-one k, take-suc xs k 0 (omega arith), map_lines-append kind (take k xs) (at xs k ∷ []))
      (ap (λ rest. map_lines kind (take k xs) ++ rest) (append-nil (entry_line kind xs k)));
}

-- all of them are those of the map
pub mapped-all : (kind : ℕ) (xs : List ℕ) → mapped kind xs (length xs) ≡ map_lines kind xs
mapped-all kind xs = ap (map_lines kind) (take_all (length xs) xs (omega arith))

-- ---- how long the lines are, for whoever lends the buffer

-- eleven bytes for the answer
pub answer_line-length : (number role fault : ℕ) → length (answer_line number role fault) ≡ 11
unfolding answer_line line two_digits four_digits
answer_line-length number role fault = refl

-- seven for each entry of a map
pub map_lines-length : (kind : ℕ) (xs : List ℕ) → length (map_lines kind xs) ≡ 7 * length xs
unfolding map_lines line two_digits four_digits
map_lines-length kind [] = refl
map_lines-length kind (x ∷ xs) = omega (arith, map_lines-length kind xs)
