-- `frames_read::lines::take_mesh` meets its contract: part by part, as theory's `take_line` takes them.
use mathlib.Core.Path.{sym, ap}
use Rattle.frames_read.specs.Given.{given}
use Rattle.frames_read.proofs.Takes.{started, no_number, number_read, no_end, line_read, number-there, end-there}
use Rattle.frames_read.proofs.lines.take_mesh.Goals as goal

pub returns-in_err-rest : goal.returns-in_err-rest
unfolding given
returns-in_err-rest c = rw c.from_residual.ensures (sym (ap given c.in_err-rest.ensures))

pub take_number-requires : goal.take_number-requires
take_number-requires c =
    let none_read = started c.in_ok-rest.ensures in
    number-there none_read c.in_ok-rest.ensures.long

pub returns-in_err-vertices : goal.returns-in_err-vertices
unfolding given
returns-in_err-vertices c =
    let none_read = started c.in_ok-rest.ensures in
    rw c.from_residual-in_err-vertices.ensures (sym (ap given (no_number none_read (sym c.in_err-vertices.ensures))))

pub take_number-requires-2 : goal.take_number-requires-2
take_number-requires-2 c =
    let none_read = started c.in_ok-rest.ensures in
    let one_read = number_read none_read (sym c.in_ok-vertices.ensures) in
    number-there one_read c.in_ok-rest.ensures.long

pub returns-in_err-triangles : goal.returns-in_err-triangles
unfolding given
returns-in_err-triangles c =
    let none_read = started c.in_ok-rest.ensures in
    let one_read = number_read none_read (sym c.in_ok-vertices.ensures) in
    rw c.from_residual-in_err-triangles.ensures (sym (ap given (no_number one_read (sym c.in_err-triangles.ensures))))

pub take_end-requires : goal.take_end-requires
take_end-requires c =
    let none_read = started c.in_ok-rest.ensures in
    let one_read = number_read none_read (sym c.in_ok-vertices.ensures) in
    let two_read = number_read one_read (sym c.in_ok-triangles.ensures) in
    end-there two_read c.in_ok-rest.ensures.long

pub returns-in_err-rest-2 : goal.returns-in_err-rest-2
unfolding given
returns-in_err-rest-2 c =
    let none_read = started c.in_ok-rest.ensures in
    let one_read = number_read none_read (sym c.in_ok-vertices.ensures) in
    let two_read = number_read one_read (sym c.in_ok-triangles.ensures) in
    rw c.from_residual-in_err-rest-2.ensures (sym (ap given (no_end two_read (sym c.in_err-rest-2.ensures))))

pub returns : goal.returns
unfolding given
returns c =
    let none_read = started c.in_ok-rest.ensures in
    let one_read = number_read none_read (sym c.in_ok-vertices.ensures) in
    let two_read = number_read one_read (sym c.in_ok-triangles.ensures) in
    sym (ap given (line_read two_read (sym c.in_ok-rest-2.ensures)))
