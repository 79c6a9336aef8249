-- `undo_role::try_role` meets its contract: each call is lent what those before it made, every buffer keeps its
-- length, and the role comes to what the tests say.
use native.Mathlib.Omega.{arith}
use mathlib.Core.Path.{refl, ◌∙◌}
use Rattle.undo_role.specs.Buffers.{buffers, Rooms}
use Rattle.undo_role.specs.Tried.{found, none}
use Rattle.undo_role.proofs.Rooms.{rooms-kept, tried-kept}
use Rattle.undo_role.proofs.Tries.{unfound, picked, numberable, uncounted, mappable}
use Rattle.undo_role.proofs.Tries.{unmapped, claimable, unmatched, comparable, read, refused}
use Rattle.undo_role.proofs.try_role.Goals as goal
use Rattle.undo_role.proofs.try_role.Goals.{After-find_tiles, After-number_tiles, After-map_vertices, After-map_triangles}

-- ---- room in the buffers after each call, which keep their lengths

-- with the tiles
room_of_tiles : (c : After-find_tiles)
    → Rooms c.args.mesh.vertices c.args.mesh.triangles
    (buffers c.args.cover.other.now c.args.cover.rows.now c.args.cover.ring.now c.find_tiles.new.marks c.args.coarse.now c.args.numbers.now
    c.find_tiles.new.queue c.find_tiles.new.kept c.find_tiles.new.opened)
room_of_tiles c =
    rooms-kept (omega arith) c.requires.lent.rooms
    (tried-kept c.find_tiles.auto.marks refl refl c.find_tiles.auto.queue c.find_tiles.auto.kept c.find_tiles.auto.opened)

-- with the coarse mesh and its numbers
room_of_numbers : (c : After-number_tiles)
    → Rooms c.args.mesh.vertices c.args.mesh.triangles
    (buffers c.args.cover.other.now c.args.cover.rows.now c.args.cover.ring.now c.find_tiles.new.marks c.number_tiles.new.coarse
    c.number_tiles.new.numbers c.number_tiles.new.rank c.find_tiles.new.kept c.number_tiles.new.table)
room_of_numbers c =
    rooms-kept (omega arith) c.requires.lent.rooms
    (tried-kept c.find_tiles.auto.marks c.number_tiles.auto.coarse c.number_tiles.auto.numbers
    (c.number_tiles.auto.rank ∙ c.find_tiles.auto.queue) c.find_tiles.auto.kept
    (c.number_tiles.auto.table ∙ c.find_tiles.auto.opened))

-- with the vertex map
room_of_vertices : (c : After-map_vertices)
    → Rooms c.args.mesh.vertices c.args.mesh.triangles
    (buffers c.args.cover.other.now c.args.cover.rows.now c.args.cover.ring.now c.find_tiles.new.marks c.number_tiles.new.coarse
    c.number_tiles.new.numbers c.map_vertices.new.map c.find_tiles.new.kept c.map_vertices.new.corners)
room_of_vertices c =
    rooms-kept (omega arith) c.requires.lent.rooms
    (tried-kept c.find_tiles.auto.marks c.number_tiles.auto.coarse c.number_tiles.auto.numbers
    (c.map_vertices.auto.map ∙ c.number_tiles.auto.rank ∙ c.find_tiles.auto.queue) c.find_tiles.auto.kept
    (c.map_vertices.auto.corners ∙ c.number_tiles.auto.table ∙ c.find_tiles.auto.opened))

-- with the triangle map
room_of_triangles : (c : After-map_triangles)
    → Rooms c.args.mesh.vertices c.args.mesh.triangles
    (buffers c.args.cover.other.now c.args.cover.rows.now c.args.cover.ring.now c.find_tiles.new.marks c.number_tiles.new.coarse
    c.number_tiles.new.numbers c.map_vertices.new.map c.map_triangles.new.map c.map_triangles.new.claimed)
room_of_triangles c =
    rooms-kept (omega arith) c.requires.lent.rooms
    (tried-kept c.find_tiles.auto.marks c.number_tiles.auto.coarse c.number_tiles.auto.numbers
    (c.map_vertices.auto.map ∙ c.number_tiles.auto.rank ∙ c.find_tiles.auto.queue)
    (c.map_triangles.auto.map ∙ c.find_tiles.auto.kept)
    (c.map_triangles.auto.claimed ∙ c.map_vertices.auto.corners ∙ c.number_tiles.auto.table ∙ c.find_tiles.auto.opened))

-- ---- the answers

pub returns-in_default : goal.returns-in_default
returns-in_default c = none (unfound c.requires c.find_tiles.ensures c.in_default.is)

pub number_tiles-requires : goal.number_tiles-requires
number_tiles-requires c = numberable c.requires (picked c.requires c.find_tiles.ensures c.in-Some.is)
    (room_of_tiles (goal.at.number_tiles-requires c).After-find_tiles)

pub returns-in_default-number_tiles : goal.returns-in_default-number_tiles
returns-in_default-number_tiles c = none (uncounted c.requires (picked c.requires c.find_tiles.ensures c.in-Some.is)
    c.number_tiles.ensures c.in_default-number_tiles.is)

pub map_vertices-requires : goal.map_vertices-requires
map_vertices-requires c = mappable c.requires (picked c.requires c.find_tiles.ensures c.in-Some.is)
    (room_of_numbers (goal.at.map_vertices-requires c).After-number_tiles)

pub returns-then-not-map_vertices : goal.returns-then-not-map_vertices
returns-then-not-map_vertices c = none (unmapped c.requires (picked c.requires c.find_tiles.ensures c.in-Some.is)
    c.number_tiles.ensures c.map_vertices.ensures c.if-not-map_vertices.true)

pub map_triangles-requires : goal.map_triangles-requires
map_triangles-requires c = claimable c.requires (picked c.requires c.find_tiles.ensures c.in-Some.is)
    (room_of_vertices (goal.at.map_triangles-requires c).After-map_vertices)

pub returns-then-not-map_triangles : goal.returns-then-not-map_triangles
returns-then-not-map_triangles c = none (unmatched c.requires (picked c.requires c.find_tiles.ensures c.in-Some.is)
    c.number_tiles.ensures c.map_vertices.ensures c.map_triangles.ensures c.if-not-map_triangles.true)

pub compare_all-compared-requires : goal.compare_all-compared-requires
compare_all-compared-requires c = comparable c.requires (picked c.requires c.find_tiles.ensures c.in-Some.is) c.number_tiles.ensures
    c.map_vertices.ensures c.map_triangles.ensures
    (room_of_triangles (goal.at.compare_all-compared-requires c).After-map_triangles) c.if-not-map_triangles.false

pub returns-in-Ok : goal.returns-in-Ok
returns-in-Ok c = found (read c.requires (picked c.requires c.find_tiles.ensures c.in-Some.is)
    c.number_tiles.ensures c.map_vertices.ensures c.map_triangles.ensures c.compare_all-compared.ensures c.in-Some-number_tiles.is
    c.if-not-map_vertices.false c.if-not-map_triangles.false (room_of_triangles (goal.at.returns-in-Ok c).After-map_triangles)
    c.in-Ok.is)

pub returns-in-Err : goal.returns-in-Err
returns-in-Err c = rw c.no_reading.ensures
    (refused c.requires (picked c.requires c.find_tiles.ensures c.in-Some.is)
    c.number_tiles.ensures c.map_vertices.ensures c.map_triangles.ensures c.compare_all-compared.ensures c.in-Some-number_tiles.is
    c.if-not-map_vertices.false c.if-not-map_triangles.false (room_of_triangles (goal.at.returns-in-Err c).After-map_triangles)
    c.in-Err.mismatch c.in-Err.is)
