-- `mesh_rings::ring::ring_table` meets its contract.
use Rattle.std.proofs.Common.{◌≡◌, ℕ, ◌+◌, ◌*◌, ◌≤◌, ◌<◌, List, ◌++◌, length, drop, replicate, refl, sym, ◌∙◌, arith}
use Rattle.theory.specs.Mesh.{at}
use Rattle.theory.specs.Splitting.{lesser, greater, first_on}
use Rattle.lists.specs.Tables.{Tabulated}
use Rattle.lists.proofs.Lists.{by-eq, at-filled}
use Rattle.mesh_rings.specs.Tables.{Listed}
use Rattle.mesh_rings.specs.Ring.{RingBy}
use Rattle.mesh_rings.specs.Chains.{Chained}
use Rattle.mesh_rings.specs.Making.{Chain, JoinLent, Joined}
use Rattle.mesh_rings.proofs.Sides.{ends-below}
use Rattle.mesh_rings.proofs.EdgeRings.{edge-follows}
use Rattle.mesh_rings.proofs.ring.ring_table.Invariants.{Turn}
use Rattle.mesh_rings.proofs.ring.ring_table.Goals as goal

module _ {N F : ℕ} {T highs : List ℕ} (L : Listed N F T) (G : Tabulated (greater T) (3 * F) highs) where
  -- the greater end of a half-edge is below N in its table too
  high-below : (h : ℕ) → h < 3 * F → at highs h < N
  high-below h b = omega (arith, G.entry h b, ends-below L h b)

  -- at first all links are those of the chains, and every greater end has the stamp N
  begun : {ring stamp : List ℕ} (stamp₀ : List ℕ) → stamp ≡ replicate N N ++ drop N stamp₀
      → Turn N F T highs ring stamp ring 0
  begun {stamp = stamp} stamp₀ filled =
      record {
        made = λ h b l. absurd (omega arith);
        rest = λ h b l. refl;
        fresh = λ h k b f l s. absurd (omega (arith, stamp-filled h b));
      }
    where
      stamp-filled : (h : ℕ) → h < 3 * F → at stamp (at highs h) ≡ N
      stamp-filled h b = rw filled (at-filled N N stamp₀ (at highs h) (high-below h b))

  module _ {head ring₀ stamp ring : List ℕ} {u start : ℕ} (C : Chained (lesser T) N (3 * F) head ring₀)
      (S : Turn N F T highs ring₀ stamp ring u) (below : u < N) (e : start ≡ at head u) where
    -- the chain of u is still there
    chain_left : Chain (lesser T) u start (3 * F) ring
    chain_left =
        record {
          starts = rw e (C.heads u below);
          links = λ h b k. rw (S.rest h b (omega arith)) (rw k at (C.links h b));
        }

    -- what `join` requires of it
    joinable : {last : List ℕ} → N < 65536 → 3 * F ≤ length highs → N ≤ length stamp → N ≤ length last
        → 3 * F ≤ length ring → JoinLent u start (3 * F) highs stamp last ring
    joinable bound greaters stamps lasts rings =
        record {
          small = L.small;
          bound = omega arith;
          low = lesser T;
          chain = chain_left;
          greaters = greaters;
          stampable = λ h b. omega (arith, high-below h b);
          lastable = λ h b. omega (arith, high-below h b);
          roomy = rings;
          fresh = λ h b. S.fresh h u b (omega arith) below;
        }

    -- the rings of u are made
    turned : {stamp' ring' : List ℕ} → Joined u start (3 * F) highs stamp ring stamp' ring'
        → Turn N F T highs ring₀ stamp' ring' (u + 1)
    turned {stamp'} J =
        record {
          made = λ h b k.
              by-eq (lesser T h) u (J.made (lesser T) chain_left h b)
              (λ ne. rw (J.rest (lesser T) chain_left h b ne) (S.made h b (omega arith)));
          rest = λ h b k. J.rest (lesser T) chain_left h b (λ same. omega arith) ∙ S.rest h b (omega arith);
          fresh = λ h k b f c same.
              by-eq (at stamp' (at highs h)) u (λ old. absurd (omega arith))
              (λ ne. S.fresh h k b (omega arith) c (sym (J.stamps (at highs h) ne) ∙ same));
        }

  -- all lesser ends are below N
  finished : {ring₀ stamp ring : List ℕ} {u : ℕ} → Turn N F T highs ring₀ stamp ring u → N ≤ u
      → RingBy (3 * F) (first_on T) ring
  finished S l = record { follows = λ h b. edge-follows T G b (S.made h b (omega (arith, ends-below L h b))) }

pub loop-u-init : goal.loop-u-init
loop-u-init c = begun c.requires.listed c.greater_ends.ensures c.args.stamp.now c.fill.ensures

pub join-requires : goal.join-requires
join-requires c =
    joinable c.requires.listed c.greater_ends.ensures c.chain.ensures c.loop-u.invariant c.loop-u-test.true c.at.ensures
    c.requires.bound (omega arith) (omega arith) (omega arith) (omega arith)

pub loop-u-preserved : goal.loop-u-preserved
loop-u-preserved c =
    turned c.requires.listed c.greater_ends.ensures c.chain.ensures c.loop-u.invariant c.loop-u-test.true c.at.ensures
    c.join.ensures

pub returns : goal.returns
returns c = finished c.requires.listed c.greater_ends.ensures c.loop-u.invariant c.loop-u-test.false
