-- `collect::collect` meets its contract: what is wrong with the record or the store is answered, and else the bytes are walked over.
use mathlib.Core.Path.{◌∙◌}
use Rattle.collect.specs.Collect.{state}
use Rattle.collect.specs.laws.Code.{call_refused, call_goes}
use Rattle.collect.proofs.collect.Goals as goal

pub returns-in-Err : goal.returns-in-Err
returns-in-Err c = call_refused (state c.args.c c.args.store.now) c.args.bytes.now c.in-Err.refusal c.in-Err.ensures

pub returns : goal.returns
returns c = c.walk_bytes.ensures ∙ call_goes (state c.args.c c.args.store.now) c.args.bytes.now c.in_default.ensures
