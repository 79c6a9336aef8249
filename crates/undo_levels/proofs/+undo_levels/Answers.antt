-- `undo_levels::undo_levels` meets its contract.
use native.Mathlib.Omega.{arith}
use Prim.Native.Nat.{ℕ}
use mathlib.Core.Path.{◌≡◌, ap, subst}
use mathlib.Core.List.{List}
use Rattle.answers.specs.declared.counts.Counts.{Counts}
use Rattle.std.specs.Prelude.{Option}
use Rattle.answers.specs.declared.taken.RoleRead.{RoleRead}
use Rattle.undo_level.specs.Level.{LevelTried}
use Rattle.undo_levels.proofs.Levels.{levels-level, levels-reached, levels-stopped}
use Rattle.undo_levels.proofs.Levels.{tried-coarser, levels-kept, levels-lent, levels-more, levels-undone}
use Rattle.undo_levels.proofs.+undo_levels.Goals as goal

-- the level that was tried, by what it came to
level : {N F : ℕ} {T coarse ring : List ℕ} {tried seen : Option RoleRead} → LevelTried N F T coarse ring tried
    → tried ≡ seen → LevelTried N F T coarse ring seen
level L e = subst (LevelTried _ _ _ _ _) e L

pub returns-then-allowance-eq0 : goal.returns-then-allowance-eq0
returns-then-allowance-eq0 t c =
    levels-reached c.requires c.if-allowance-eq0.true c.stop.ensures.said c.stop.ensures.left

pub one_level-requires : goal.one_level-requires
one_level-requires t c = levels-level c.requires

pub returns-in_default : goal.returns-in_default
returns-in_default t c =
    levels-stopped c.requires c.if-allowance-eq0.false (level c.one_level.ensures c.in_default.is)
    c.stop-in_default.ensures.said c.stop-in_default.ensures.left

pub coarse_counts-requires : goal.coarse_counts-requires
coarse_counts-requires t c = levels-kept c.requires (level c.one_level.ensures c.in-Some.is)

pub undo_levels-rest-requires : goal.undo_levels-rest-requires
undo_levels-rest-requires t c = (
  omega (arith, c.decreases, c.if-allowance-eq0.false),
  levels-lent c.requires (omega (arith, c.requires.few))
      (record {
        other = c.one_level.auto.other;
        rows = c.one_level.auto.rows;
        ring = c.one_level.auto.ring;
        marks = c.one_level.auto.marks;
        coarse = c.one_level.auto.coarse;
        numbers = c.one_level.auto.numbers;
        map = c.one_level.auto.map;
        faces = c.one_level.auto.faces;
        table = c.one_level.auto.table;
      })
      (level c.one_level.ensures c.in-Some.is) c.coarse_counts.ensures,
)

pub one_more-requires : goal.one_more-requires
one_more-requires t c =
    levels-more (tried-coarser (level c.one_level.ensures c.in-Some.is))
    (omega (arith, c.requires.few, c.if-allowance-eq0.false)) c.undo_levels-rest.ensures

pub returns : goal.returns
returns t c =
    levels-undone c.if-allowance-eq0.false (tried-coarser (level c.one_level.ensures c.in-Some.is))
    (ap (λ (k : Counts). k.vertices) c.coarse_counts.ensures)
    (ap (λ (k : Counts). k.triangles) c.coarse_counts.ensures) c.undo_levels-rest.ensures c.one_more.ensures
