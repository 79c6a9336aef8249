-- Laws of the search's queue: it holds the marked triangles, each once, and `push` makes it grow by a triangle that is
-- not marked.
use Prim.Native.Nat.{ℕ, ◌*◌, ◌≤◌, ◌<◌}
use native.Mathlib.Omega.{arith}
use mathlib.Core.Path.{◌≡◌, ◌∙◌, refl, sym, ap}
use mathlib.Core.Logic.{◌⊎◌, inl, inr, ⊎_elim}
use lib.ListN.{length}
use Rattle.theory.specs.Mesh.{at}
use Rattle.theory.proofs.Finite.{injective-le}
use Rattle.lists.proofs.Lists.{by-eq, by-lt, at_set, at_set_same, at_set_other}
use Rattle.mesh_reach.specs.declared.Search.{Search}
use Rattle.mesh_reach.specs.Searching.{Same, Queued, Grown, PushLent, Pushed}

-- ---- the same tables

-- they are the same where nothing happens
pub same-refl : {s : Search} → Same s s
same-refl = record { marks = refl; queue = refl; opened = refl; marks_long = refl; queue_long = refl; opened_long = refl }

-- and from one step to the next
pub same-trans : {s t u : Search} → Same s t → Same t u → Same s u
same-trans A B =
    record {
      marks = B.marks ∙ A.marks;
      queue = B.queue ∙ A.queue;
      opened = B.opened ∙ A.opened;
      marks_long = B.marks_long ∙ A.marks_long;
      queue_long = B.queue_long ∙ A.queue_long;
      opened_long = B.opened_long ∙ A.opened_long;
    }

-- ---- the queue

module _ {F : ℕ} {s : Search} (Q : Queued F s) where
  -- it holds no more than all triangles
  pub queued-le : s.filled ≤ F
  queued-le = injective-le (at s.queue.now) s.filled F Q.below Q.apart

  -- an unmarked triangle is not in it
  queued-not : {k : ℕ} → at s.marks.now k ≡ 0 → (i : ℕ) → i < s.filled → at s.queue.now i ≡ k → ⊥
  queued-not z i l e = absurd (omega (arith, z, rw e at (Q.marked i l)))

module _ {F : ℕ} {due : ℕ → Type 0} where
  -- where nothing happens, nothing comes to it
  pub grown-none : {s : Search} → Queued F s → Grown F due s s
  grown-none Q =
      record { queued = Q; more = omega arith; front = λ i l. refl; kept = λ k m. m; only = λ k m. inl m }

  -- one growth after another
  pub grown-trans : {s t u : Search} → Grown F due s t → Grown F due t u → Grown F due s u
  grown-trans G H =
      record {
        queued = H.queued;
        more = omega (arith, G.more, H.more);
        front = λ i l. H.front i (omega (arith, G.more)) ∙ G.front i l;
        kept = λ k m. H.kept k (G.kept k m);
        only = λ k m. ⊎_elim (G.only k) inr (H.only k m);
      }

-- ---- a push

-- triangle k is marked and put behind the queue, which has room for one entry more than there are triangles
module _ {F k : ℕ} {s : Search} (Q : Queued F s) (l : k < F) (m : F ≤ length s.marks.now)
    (q : F < length s.queue.now) where
  -- there is room behind the queue
  push-room : s.filled < length s.queue.now
  push-room = omega (arith, queued-le Q)

  -- what `push` is lent
  pub push-lent : 3 * F < 65536 → PushLent k s
  push-lent b =
      record {
        small = omega arith;
        inside = omega arith;
        bit = ⊎_elim (λ z. omega (arith, z)) (λ e. omega (arith, e)) (Q.bit k l);
        room = push-room;
      }

  module _ {t : Search} (P : Pushed k s t) where
    -- after it the triangle is marked
    pub pushed-marked : at t.marks.now k ≡ 1
    pushed-marked = rw P.marking (at_set_same s.marks.now k 1 (omega arith))

    -- what is marked stays so
    push_kept : (j : ℕ) → at s.marks.now j ≡ 1 → at t.marks.now j ≡ 1
    push_kept j e = rw P.marking (at_set (λ v. v ≡ 1) s.marks.now k 1 j (omega arith) (λ _. refl) (λ _. e))

    -- only k comes to it
    push-only : (j : ℕ) → at t.marks.now j ≡ 1 → (at s.marks.now j ≡ 1) ⊎ (j ≡ k)
    push-only j e = by-eq j k inr (λ ne. inl (sym (at_set_other s.marks.now k 1 j ne) ∙ (rw P.marking at e)))

    -- the queue's old entries
    push-front : (i : ℕ) → i < s.filled → at t.queue.now i ≡ at s.queue.now i
    push-front i b = rw P.queueing (at_set_other s.queue.now s.filled k i (omega arith))

    -- and the one behind them
    push-last : at t.queue.now s.filled ≡ k
    push-last = rw P.queueing (at_set_same s.queue.now s.filled k push-room)

    -- where the queue is longer by it, an entry that is k is the last
    push-end : s.filled < t.filled → (i : ℕ) → i < t.filled → at t.queue.now i ≡ k → i ≡ s.filled
    push-end longer i b e =
        by-lt i s.filled
        (λ old. absurd (queued-not Q (omega (arith, P.counted)) i old (sym (push-front i old) ∙ e)))
        (λ new. omega (arith, P.counted))

    -- the entries are still pairwise different
    push-apart : (i j : ℕ) → i < t.filled → j < t.filled → at t.queue.now i ≡ at t.queue.now j → i ≡ j
    push-apart i j b d e =
        by-eq i s.filled
        (λ same. same ∙ sym (push-end (omega arith) j d (sym e ∙ ap (at t.queue.now) same ∙ push-last)))
        (λ ne.
        by-eq j s.filled
        (λ same. push-end (omega arith) i b (e ∙ ap (at t.queue.now) same ∙ push-last) ∙ sym same)
        (λ nf.
        let p : i < s.filled = omega (arith, P.counted) in
        let r : j < s.filled = omega (arith, P.counted) in
        Q.apart i j p r (sym (push-front i p) ∙ e ∙ push-front j r)))

    -- a triangle that was marked still has its entry
    push-old : (j : ℕ) → j < F → at s.marks.now j ≡ 1 → (i : ℕ) × (i < t.filled) × (at t.queue.now i ≡ j)
    push-old j b e = go (Q.held j b e)
      where
        go : (i : ℕ) × (i < s.filled) × (at s.queue.now i ≡ j) → (i : ℕ) × (i < t.filled) × (at t.queue.now i ≡ j)
        go (i, p, h) = (i, omega (arith, P.counted), push-front i p ∙ h)

    -- so each marked triangle has one
    push-held : (j : ℕ) → j < F → at t.marks.now j ≡ 1 → (i : ℕ) × (i < t.filled) × (at t.queue.now i ≡ j)
    push-held j b e =
        ⊎_elim (push-old j b)
        (λ same.
        ⊎_elim
        (λ z. (s.filled, omega (arith, z, P.counted), push-last ∙ sym same))
        (λ o. push-old j b (ap (at s.marks.now) same ∙ o))
        (Q.bit k l))
        (push-only j e)

    -- it is the queue of the marked triangles again
    push-queued : Queued F t
    push-queued =
        record {
          bit = λ j b.
              rw P.marking
              (at_set (λ v. (v ≡ 0) ⊎ (v ≡ 1)) s.marks.now k 1 j (omega arith) (λ _. inr refl) (λ _. Q.bit j b));
          below = λ i b.
              rw P.queueing
              (at_set (λ v. v < F) s.queue.now s.filled k i push-room (λ _. l) (λ ne. Q.below i (omega (arith, P.counted))));
          marked = λ i b.
              rw P.queueing
              (at_set (λ v. at t.marks.now v ≡ 1) s.queue.now s.filled k i push-room (λ _. pushed-marked)
              (λ ne. push_kept (at s.queue.now i) (Q.marked i (omega (arith, P.counted)))));
          apart = push-apart;
          held = push-held;
        }

    -- the growth of a push of a triangle that is due
    pub pushed-grown : {due : ℕ → Type 0} → due k → Grown F due s t
    pushed-grown d =
        record {
          queued = push-queued;
          more = omega (arith, P.counted);
          front = push-front;
          kept = push_kept;
          only = λ j e. ⊎_elim inl (λ same. inr (rw same d)) (push-only j e);
        }
