-- Few ones go as one number (`gr_word`), many by `bits::wide::put_gr`.
use Rattle.code_write.proofs.put.put_gr.Goals as goal

pub returns-then-v-lt22 : goal.returns-then-v-lt22
returns-then-v-lt22 c = let w = c.gr_word in rw (← w.ensures.0) c.put.ensures
