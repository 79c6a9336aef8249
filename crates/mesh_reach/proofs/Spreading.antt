-- The search for what is reached: what it takes to cross an edge without a walk, and the state of the search, from the
-- start alone to the end, where the marked triangles are those that are come to.
use Prim.Native.Nat.{ℕ, suc, ◌+◌, ◌*◌, ◌/◌, ◌%◌, ◌≤◌, ◌<◌}
use native.Mathlib.Omega.{arith}
use mathlib.Core.Path.{◌≡◌, ◌∙◌, refl, sym, ap}
use mathlib.Core.Logic.{◌≢◌, inl, inr, ⊎_elim}
use mathlib.Core.List.{List}
use Rattle.theory.specs.Mesh.{at}
use Rattle.lists.proofs.Lists.{by-eq}
use Rattle.mesh_rings.specs.Ring.{RingBy}
use Rattle.mesh_rings.proofs.Facts.{back-two}
use Rattle.mesh_reach.specs.Reached.{Joined, Joins, here, step, Reached}
use Rattle.mesh_reach.specs.declared.Search.{Search}
use Rattle.mesh_reach.specs.Searching.{Same, Queued, Grown, PushLent, Pushed, HasKey, Complete, CrossLent, Crossed}
use Rattle.mesh_reach.specs.Searching.{SpreadLent}
use Rattle.mesh_reach.proofs.Queues.{same-refl, same-trans, grown-none, push-lent, pushed-grown}
use Rattle.mesh_reach.proofs.Queues.{pushed-marked}

-- ---- the triangles of an edge

module _ {F : ℕ} {key : ℕ → ℕ} where
  -- half-edges with the same key have the same triangles on their edge
  pub has_key-moved : {g h k : ℕ} → key g ≡ key h → HasKey F key g k → HasKey F key h k
  has_key-moved e H = record { half = H.half; inside = H.inside; same = H.same ∙ e; of = H.of }

  -- they are joined to the half-edge's own
  has_key-joined : (h k : ℕ) → h < 3 * F → HasKey F key h k → Joined F key (h / 3) k
  has_key-joined h k l H =
      record {
        mine = h;
        yours = H.half;
        inside_mine = l;
        inside_yours = H.inside;
        of_mine = refl;
        of_yours = H.of;
        same = sym H.same;
      }

-- ---- an edge is crossed without a walk

module _ {h F : ℕ} {ring : List ℕ} {s : Search} (L : CrossLent h F ring s) where
  -- an edge that is opened has its triangles marked
  pub crossed-opened : at s.opened.now h ≢ 0 → Crossed h F ring s s
  crossed-opened o =
      record {
        grown = λ key R. grown-none L.queued;
        all = λ key R. L.complete.all key R h L.inside o;
        complete = L.complete;
        same = same-refl;
      }

  module _ {next : ℕ} (e : next ≡ at ring h) where
    -- the next half-edge of the ring is one
    pub next-inside : next < 3 * F
    next-inside = omega (arith, (L.ringed.follows h L.inside).within)

    -- what `push` is lent for its triangle
    pub next-pushable : PushLent (next / 3) s
    next-pushable = push-lent L.queued (omega (arith, next-inside)) L.marks_room L.queue_room L.small

    -- if it leads back, its triangle is the only other one
    pub crossed-two : {t : Search} → at ring next ≡ h → Pushed (next / 3) s t → Crossed h F ring s t
    crossed-two {t} back P =
        record {
          grown = grown;
          all = λ key R k H. rw H.of at (marked key R H.half H.inside H.same);
          complete = record {
            all = λ key R g l o k H.
                (grown L.key L.ringed).kept k (L.complete.all key R g l (rw P.opening at o) k H);
          };
          same = P.same;
        }
      where
        grown : (key : ℕ → ℕ) → RingBy (3 * F) key ring → Grown F (HasKey F key h) s t
        grown key R =
            pushed-grown L.queued (omega (arith, next-inside)) L.marks_room L.queue_room P
            (record {
              half = next;
              inside = next-inside;
              same = ap key e ∙ (R.follows h L.inside).same;
              of = refl;
            })

        own : at t.marks.now (h / 3) ≡ 1
        own = (grown L.key L.ringed).kept (h / 3) L.own

        pushed : at t.marks.now (next / 3) ≡ 1
        pushed = pushed-marked L.queued (omega (arith, next-inside)) L.marks_room L.queue_room P

        marked : (key : ℕ → ℕ) → RingBy (3 * F) key ring → (g : ℕ) → g < 3 * F → key g ≡ key h
            → at t.marks.now (g / 3) ≡ 1
        marked key R g l k =
            by-eq g h
            (λ same. rw same own)
            (λ ne. rw (back-two R h L.inside (ap (at ring) (sym e) ∙ back) g l k ne ∙ sym e) pushed)

-- ---- how far the search has come

-- The search, which began as s₀, with the edges of the queue's first `done` half-edges crossed: half-edge 3i + c is corner
-- c of entry i.
pub record Progress (F : ℕ) (ring : List ℕ) (s₀ s : Search) (done : ℕ) : Type 0 where
  pub lent : SpreadLent F ring s₀
  pub same : Same s₀ s
  pub queued : Queued F s
  pub begun : at s.marks.now (at s₀.queue.now 0) ≡ 1
  pub joined : (key : ℕ → ℕ) → RingBy (3 * F) key ring → (k : ℕ) → k < F → at s.marks.now k ≡ 1
      → Joins F key (at s₀.queue.now 0) k
  pub complete : Complete F ring s
  pub crossed : (key : ℕ → ℕ) → RingBy (3 * F) key ring → (i c : ℕ) → c < 3 → 3 * i + c < done → (k : ℕ)
      → HasKey F key (3 * at s.queue.now i + c) k → at s.marks.now k ≡ 1

-- Amid entry i of the queue, triangle k: the edges of its first c corners are crossed.
pub record Amid (F : ℕ) (ring : List ℕ) (s₀ s : Search) (i k c : ℕ) : Type 0 where
  pub progress : Progress F ring s₀ s (3 * i + c)
  pub inside : i < s.filled
  pub entry : at s.queue.now i ≡ k

-- ---- the search's start

module _ {F : ℕ} {ring : List ℕ} {s : Search} (S : SpreadLent F ring s) where
  -- only the start is marked
  start-only : (k : ℕ) → k < F → at s.marks.now k ≡ 1 → k ≡ at s.queue.now 0
  start-only k l m = by-eq k (at s.queue.now 0) (λ e. e) (λ ne. absurd (omega (arith, S.others k l ne)))

  -- the queue of the start alone
  start-queued : Queued F s
  start-queued =
      record {
        bit = λ k l. by-eq k (at s.queue.now 0) (λ e. inr (rw e S.marked)) (λ ne. inl (S.others k l ne));
        below = λ i l. rw (front i l) S.lent.inside;
        marked = λ i l. rw (front i l) S.marked;
        apart = λ i j l b e. omega (arith, S.alone);
        held = λ k l m. (0, omega (arith, S.alone), sym (start-only k l m));
      }
    where
      front : (i : ℕ) → i < s.filled → i ≡ 0
      front i l = omega (arith, S.alone)

  -- the search at its start
  pub progress-begun : Progress F ring s s 0
  progress-begun =
      record {
        lent = S;
        same = same-refl;
        queued = start-queued;
        begun = S.marked;
        joined = λ key R k l m. rw (start-only k l m) here;
        complete = record { all = λ key R g l o k H. absurd (o (S.shut g l)) };
        crossed = λ key R i c l b k H. absurd (omega arith);
      }

-- ---- a turn of the search

module _ {F : ℕ} {ring : List ℕ} {s₀ s : Search} where
  -- the search comes to the next entry
  pub progress-enters : {i k : ℕ} → Progress F ring s₀ s (3 * i) → i < s.filled → k ≡ at s.queue.now i
      → Amid F ring s₀ s i k 0
  progress-enters {i} S l e =
      let z : 3 * i ≡ 3 * i + 0 = omega arith in
      record { progress = rw z at S; inside = l; entry = sym e }

  -- and leaves it
  pub progress-leaves : {i k : ℕ} → Amid F ring s₀ s i k 3 → Progress F ring s₀ s (3 * (i + 1))
  progress-leaves {i} A =
      let z : 3 * i + 3 ≡ 3 * (i + 1) = omega arith in
      rw z at A.progress

module _ {F : ℕ} {ring : List ℕ} {s₀ s : Search} {i k c : ℕ} (A : Amid F ring s₀ s i k c) where
  -- the entry's triangle is one
  amid-below : k < F
  amid-below = omega (arith, A.progress.queued.below i A.inside, A.entry)

  -- and is marked
  amid-marked : at s.marks.now k ≡ 1
  amid-marked = rw A.entry at (A.progress.queued.marked i A.inside)

  module _ {h : ℕ} {t : Search} (l : c < 3) (e : h ≡ 3 * k + c) (E : Crossed h F ring s t) where
    -- the queue has grown
    crossed-grown : Grown F (HasKey F A.progress.lent.lent.key h) s t
    crossed-grown = E.grown A.progress.lent.lent.key A.progress.lent.lent.ringed

    -- what is marked then is come to
    crossed-joined : (key : ℕ → ℕ) → RingBy (3 * F) key ring → (j : ℕ) → j < F → at t.marks.now j ≡ 1
        → Joins F key (at s₀.queue.now 0) j
    crossed-joined key R j b m =
        ⊎_elim (A.progress.joined key R j b) (λ H. step (A.progress.joined key R k amid-below amid-marked) (due H))
        ((E.grown key R).only j m)
      where
        due : HasKey F key h j → Joined F key k j
        due H =
            let of : h / 3 ≡ k = omega arith in
            rw of at (has_key-joined h j (omega (arith, amid-below)) H)

    -- one edge more of the queue's half-edges is crossed
    crossed-more : (key : ℕ → ℕ) → RingBy (3 * F) key ring → (j d : ℕ) → d < 3 → 3 * j + d < 3 * i + suc c → (n : ℕ)
        → HasKey F key (3 * at t.queue.now j + d) n → at t.marks.now n ≡ 1
    crossed-more key R j d b p n H =
        by-eq (3 * j + d) (3 * i + c)
        (λ z.
        let same : j ≡ i = omega arith in
        let half : 3 * at t.queue.now j + d ≡ h = omega (arith, front, ap (at s.queue.now) same, A.entry) in
        E.all key R n (rw half at H))
        (λ ne. crossed-grown.kept n (A.progress.crossed key R j d b (omega arith) n (rw front at H)))
      where
        front : at t.queue.now j ≡ at s.queue.now j
        front = crossed-grown.front j (omega (arith, A.inside))

    -- so the search goes on to the next corner
    pub amid-crossed : Amid F ring s₀ t i k (suc c)
    amid-crossed =
        record {
          progress = record {
            lent = A.progress.lent;
            same = same-trans A.progress.same E.same;
            queued = crossed-grown.queued;
            begun = crossed-grown.kept (at s₀.queue.now 0) A.progress.begun;
            joined = crossed-joined;
            complete = E.complete;
            crossed = crossed-more;
          };
          inside = omega (arith, A.inside, crossed-grown.more);
          entry = crossed-grown.front i A.inside ∙ A.entry;
        }

-- ---- the search's end

-- the edges of all entries are crossed
module _ {F : ℕ} {ring : List ℕ} {s₀ s : Search} {next : ℕ} (S : Progress F ring s₀ s (3 * next))
    (l : s.filled ≤ next) where
  module _ {key : ℕ → ℕ} (R : RingBy (3 * F) key ring) where
    -- what is joined to a marked triangle is marked
    joined-marked : {j k : ℕ} → at s.marks.now j ≡ 1 → Joined F key j k → at s.marks.now k ≡ 1
    joined-marked {j} {k} m J = go (S.queued.held j (omega (arith, J.inside_mine, J.of_mine)) m)
      where
        go : (i : ℕ) × (i < s.filled) × (at s.queue.now i ≡ j) → at s.marks.now k ≡ 1
        go (i, p, e) =
            let half : 3 * at s.queue.now i + J.mine % 3 ≡ J.mine = omega (arith, J.of_mine) in
            S.crossed key R i (J.mine % 3) (omega arith) (omega arith) k
            (rw half (record { half = J.yours; inside = J.inside_yours; same = sym J.same; of = J.of_yours }))

    -- so all that are come to are marked
    joins-marked : {k : ℕ} → Joins F key (at s₀.queue.now 0) k → at s.marks.now k ≡ 1
    joins-marked here = S.begun
    joins-marked (step P J) = joined-marked (joins-marked P) J

  -- and the marks are what `reach` makes
  pub progress-finished : Reached (at s₀.queue.now 0) F ring s.marks.now
  progress-finished =
      record {
        marked = λ key R.
            record { bit = S.queued.bit; only = S.joined key R; all = λ k b P. joins-marked R P };
      }
