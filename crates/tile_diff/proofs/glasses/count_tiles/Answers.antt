-- What is lent is judged first (`lent_is`), and bounds what is counted; the counts at exit are `counts_left` either way. There are as many numbers as words.
use Rattle.std.specs.Prelude.{map}
use Rattle.std.proofs.Common.{sym, ◌∙◌, arith, rules}
use Rattle.std.proofs.lemmas.List.{length-map}
use Rattle.wire.specs.laws.Refusal.{number_pos, number_on}
use Rattle.tile_diff.specs.laws.Request.{few_words}
use Rattle.tile_diff.specs.laws.Pictures.{lent_is, left_refused, left_done}
use Rattle.tile_diff.proofs.glasses.count_tiles.Goals as goal

pub returns-in_err-tiles_fault : goal.returns-in_err-tiles_fault
returns-in_err-tiles_fault g c =
    let s = c.args in
    let n = g.W.GlassWord.number in
    let e = rw (sym (length-map s.a.now n), sym (length-map s.b.now n)) at c.in_err-tiles_fault.ensures in
    record {
      number = number_on _ _ c.from_residual.ensures.1 ∙ e;
      left = left_refused _ (map n s.a.now) (map n s.b.now) s.width s.height s.counts.now (λ z. number_pos _ (e ∙ z));
    }

pub overflow_mul-height : goal.overflow_mul-height
overflow_mul-height g c =
    let s = c.args in
    let l = lent_is s.width s.height _ _ _ (sym c.in_ok-tiles_fault.ensures) in
    omega (arith, few_words s.width s.height l.sized)

pub count_words-requires : goal.count_words-requires
count_words-requires g c =
    let s = c.args in
    let l = lent_is s.width s.height _ _ _ (sym c.in_ok-tiles_fault.ensures) in
    (l.sized.wide, l.sized.wider, few_words s.width s.height l.sized, l.first, l.second)

pub returns : goal.returns
returns g c =
    let s = c.args in
    let n = g.W.GlassWord.number in
    let e = rw (sym (length-map s.a.now n), sym (length-map s.b.now n)) at c.in_ok-tiles_fault.ensures in
    let zeros = c.fill.ensures.after (search rules) in
    record { number = e; left = left_done _ (map n s.a.now) (map n s.b.now) s.width s.height s.counts.now _ _ (sym e) zeros c.count_words.ensures }
