-- A session just opened takes the block if the panel finds no fault in it (`sync_is`).
use Rattle.tidy.specs.laws.Headers.{sync_is}
use Rattle.tidy.proofs.headers.is_sync.Goals as goal

pub returns : goal.returns
returns c =
    sync_is _ c.args.block.now _ _ c.«open».ensures c.take_header.ensures c.is_ok.ensures.value
