-- `mesh_rings::ring::link_back` meets its contract.
use Rattle.std.proofs.Common.{◌≡◌, ℕ, suc, ◌+◌, ◌*◌, ◌-◌, ◌≤◌, ◌<◌, min, List, length, set, take, replicate, sym, ◌∙◌, arith}
use Rattle.theory.specs.Mesh.{at}
use Rattle.theory.specs.Splitting.{next, lesser}
use Rattle.lists.proofs.Lists.{at_set, at-same-take, at-replicate}
use Rattle.mesh_rings.specs.Chains.{Nearest}
use Rattle.mesh_rings.specs.Tables.{Listed}
use Rattle.mesh_rings.proofs.Tables.{next-first, next-second, next_last}
use Rattle.mesh_rings.proofs.Sides.{ends-below}
use Rattle.mesh_rings.proofs.Chains.{nearest-none, nearest-here, nearest-back}
use Rattle.mesh_rings.proofs.ring.link_back.Invariants.{Linked}
use Rattle.mesh_rings.proofs.ring.link_back.Goals as goal

-- at first no half-edge is left, and each head is 3F
begun : {N F : ℕ} {T head link : List ℕ} → take N head ≡ replicate N (3 * F) → Linked N F T head link (3 * F)
begun {N} {F} {head = head} e =
    record {
      heads = λ u l.
          rw (at-same-take N head (replicate N (3 * F)) e u l, at-replicate N (3 * F) u l) (nearest-none (3 * F));
      links = λ g f l. absurd (omega arith);
    }

-- half-edge h gets its key's head as its link and becomes the head
put : {N F i d key : ℕ} {T head link head' link' : List ℕ} → Listed N F T → N ≤ length head → 3 * F ≤ length link
    → Linked N F T head link i → (h : ℕ) → i ≡ suc h → h < 3 * F → next h ≡ d → key ≡ min (at T h) (at T d)
    → head' ≡ set head key h → link' ≡ set link h (at head key) → Linked N F T head' link' h
put {N} {F} {key = key} {T} {head} {link} L headed linked S h before l turn low eh el =
    rw (eh, el)
    (record {
      heads = λ u b.
          at_set (λ v. Nearest (lesser T) u h (3 * F) v) head key h u (omega (arith, below))
          (λ e. nearest-here h (3 * F) l (sym is_lesser ∙ sym e))
          (λ ne. nearest-back (λ e. ne (sym e ∙ sym is_lesser)) (rw before at (S.heads u b)));
      links = λ g f b.
          at_set (λ v. Nearest (lesser T) (lesser T g) (suc g) (3 * F) v) link h (at head key) g (omega arith)
          (λ e. rw (e, ← is_lesser) (rw before at (S.heads key below)))
          (λ ne. S.links g (omega arith) b);
    })
  where
    is_lesser : key ≡ lesser T h
    is_lesser = rw turn low

    below : key < N
    below = omega (arith, is_lesser, ends-below L h l)

pub loop-k-init : goal.loop-k-init
loop-k-init c = begun c.requires.head_value

pub loop-k-preserved : goal.loop-k-preserved
loop-k-preserved c =
    let k : ℕ = c.loop-k.k - 1 in
    let L = c.requires.chain_lent.listed in
    put L (omega arith) (omega arith)
    (put L (omega arith) (omega arith)
    (put L (omega arith) (omega arith) c.loop-k.invariant (3 * k + 2) (omega arith) (omega arith) (next_last k) c.min.ensures
    c.put_first.ensures.headed c.put_first.ensures.linked)
    (3 * k + 1) (omega arith) (omega arith) (next-second k) c.min-in-loop-k.ensures
    c.put_first-in-loop-k.ensures.headed c.put_first-in-loop-k.ensures.linked)
    (3 * k) (omega arith) (omega arith) (next-first k) c.min-in-loop-k-2.ensures
    c.put_first-in-loop-k-2.ensures.headed c.put_first-in-loop-k-2.ensures.linked

pub returns : goal.returns
returns c =
    let e : 3 * c.loop-k.k ≡ 0 = omega arith in
    let S = c.loop-k.invariant in
    record { heads = λ u b. rw e at (S.heads u b); links = λ g b. S.links g (omega arith) b }
