-- Each return is one row of `header_fault`.
use Rattle.whole.specs.laws.Row.{rows}
use Rattle.tidy.specs.Headers.{header_fault}
use Rattle.tidy.proofs.headers.header_fault.Goals as goal

pub returns-then-store-ne35 : goal.returns-then-store-ne35
unfolding header_fault
returns-then-store-ne35 c = search rows depth 14 fits 20000

pub returns-then-w-gt3 : goal.returns-then-w-gt3
unfolding header_fault
returns-then-w-gt3 c = search rows depth 14 fits 20000

pub returns-then-w-gt3-2 : goal.returns-then-w-gt3-2
unfolding header_fault
returns-then-w-gt3-2 c = search rows depth 14 fits 20000

pub returns-then-room-most : goal.returns-then-room-most
unfolding header_fault
returns-then-room-most c = search rows depth 14 fits 20000

pub returns : goal.returns
unfolding header_fault
returns c = search rows depth 14 fits 20000
