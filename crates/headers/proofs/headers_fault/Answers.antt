-- `headers_fault` meets its contract: each return is read off the row of `headers_fault`.
use Rattle.whole.specs.laws.Row.{rows}
use Rattle.headers.specs.Headers.{headers_fault}
use Rattle.headers.proofs.headers_fault.Goals as goal
use Rattle.headers.proofs.headers_fault.Goals.{then-not-is_size-via-then-not-is_size, then-not-is_size-via-else-not-is_size+then-not-is_mode}

pub returns-then-not-is_size : goal.returns-then-not-is_size
unfolding headers_fault
returns-then-not-is_size c = elim c.then-not-is_size.branch [
  | then-not-is_size-via-then-not-is_size w ↦ search rows
  | then-not-is_size-via-else-not-is_size+then-not-is_mode w ↦ search rows
]

pub returns-then-room-lt47 : goal.returns-then-room-lt47
unfolding headers_fault
returns-then-room-lt47 c = search rows

pub returns : goal.returns
unfolding headers_fault
returns c = search rows
