-- `frames_read::lines::take_triangle` meets its contract: part by part, as theory's `take_line` takes them.
use mathlib.Core.Path.{sym, ap}
use Rattle.frames_read.specs.Given.{given}
use Rattle.frames_read.proofs.Takes.{started, no_number, number_read, no_end, line_read, number-there, end-there}
use Rattle.frames_read.proofs.lines.take_triangle.Goals as goal

pub returns-in_err-rest : goal.returns-in_err-rest
unfolding given
returns-in_err-rest c = rw c.from_residual.ensures (sym (ap given c.in_err-rest.ensures))

pub take_number-requires : goal.take_number-requires
take_number-requires c =
    let none_read = started c.in_ok-rest.ensures in
    number-there none_read c.in_ok-rest.ensures.long

pub returns-in_err-a : goal.returns-in_err-a
unfolding given
returns-in_err-a c =
    let none_read = started c.in_ok-rest.ensures in
    rw c.from_residual-in_err-a.ensures (sym (ap given (no_number none_read (sym c.in_err-a.ensures))))

pub take_number-requires-2 : goal.take_number-requires-2
take_number-requires-2 c =
    let none_read = started c.in_ok-rest.ensures in
    let one_read = number_read none_read (sym c.in_ok-a.ensures) in
    number-there one_read c.in_ok-rest.ensures.long

pub returns-in_err-b : goal.returns-in_err-b
unfolding given
returns-in_err-b c =
    let none_read = started c.in_ok-rest.ensures in
    let one_read = number_read none_read (sym c.in_ok-a.ensures) in
    rw c.from_residual-in_err-b.ensures (sym (ap given (no_number one_read (sym c.in_err-b.ensures))))

pub take_number-requires-3 : goal.take_number-requires-3
take_number-requires-3 c =
    let none_read = started c.in_ok-rest.ensures in
    let one_read = number_read none_read (sym c.in_ok-a.ensures) in
    let two_read = number_read one_read (sym c.in_ok-b.ensures) in
    number-there two_read c.in_ok-rest.ensures.long

pub returns-in_err-c : goal.returns-in_err-c
unfolding given
returns-in_err-c c =
    let none_read = started c.in_ok-rest.ensures in
    let one_read = number_read none_read (sym c.in_ok-a.ensures) in
    let two_read = number_read one_read (sym c.in_ok-b.ensures) in
    rw c.from_residual-in_err-c.ensures (sym (ap given (no_number two_read (sym c.in_err-c.ensures))))

pub take_end-requires : goal.take_end-requires
take_end-requires c =
    let none_read = started c.in_ok-rest.ensures in
    let one_read = number_read none_read (sym c.in_ok-a.ensures) in
    let two_read = number_read one_read (sym c.in_ok-b.ensures) in
    let three_read = number_read two_read (sym c.in_ok-c.ensures) in
    end-there three_read c.in_ok-rest.ensures.long

pub returns-in_err-rest-2 : goal.returns-in_err-rest-2
unfolding given
returns-in_err-rest-2 c =
    let none_read = started c.in_ok-rest.ensures in
    let one_read = number_read none_read (sym c.in_ok-a.ensures) in
    let two_read = number_read one_read (sym c.in_ok-b.ensures) in
    let three_read = number_read two_read (sym c.in_ok-c.ensures) in
    rw c.from_residual-in_err-rest-2.ensures (sym (ap given (no_end three_read (sym c.in_err-rest-2.ensures))))

pub returns : goal.returns
unfolding given
returns c =
    let none_read = started c.in_ok-rest.ensures in
    let one_read = number_read none_read (sym c.in_ok-a.ensures) in
    let two_read = number_read one_read (sym c.in_ok-b.ensures) in
    let three_read = number_read two_read (sym c.in_ok-c.ensures) in
    sym (ap given (line_read three_read (sym c.in_ok-rest-2.ensures)))
