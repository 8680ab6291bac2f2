-- Each turn keeps it, and at the end it is what is promised.
use Rattle.std.proofs.Common.{◌∙◌, sym, ap, arith, rules, map, length, get_or, ◌+◌, ◌*◌, ◌<◌}
use Rattle.std.proofs.Math.Nat.{mul-le-mul}
use Rattle.std.proofs.lemmas.List.{length-map}
use Rattle.frame_draw.specs.Spans.{mask_of}
use Rattle.frame_draw.specs.laws.Paint.{number_put, put_none, put_place, put_in, put_out, put_all, put_whole}
use Rattle.frame_draw.proofs.paint.paint_row.Goals as goal
use Rattle.frame_draw.proofs.paint.paint_row.Goals.{else-mask-x-eq1, then-mask-x-eq1}

pub whole_as_slice-words_row : goal.whole_as_slice-words_row
whole_as_slice-words_row g c = omega (arith, g.met.W.GlassWord.small)

pub shared_whole_as_slice-put_part : goal.shared_whole_as_slice-put_part
shared_whole_as_slice-put_part g c = omega (arith, g.met.W.GlassWord.small)

pub words_row-requires : goal.words_row-requires
words_row-requires g c =
    (c.requires.1, omega arith, c.requires.4, c.requires.5, c.requires.6)

pub mask_of-requires : goal.mask_of-requires
mask_of-requires g c = omega (arith, c.part_of.ensures)

pub put_part-requires : goal.put_part-requires
put_part-requires g c =
    (c.requires.0, omega (arith, sym (length-map c.words_row.new.row g.W.GlassWord.number) ∙ c.words_row.ensures.len), c.requires.2)

pub returns-then-mask-mask_of : goal.returns-then-mask-mask_of
returns-then-mask-mask_of g c =
    let whole = c.if-mask-mask_of.true ∙ (c.mask_of.ensures ∙ ap (mask_of 0) c.part_of.ensures) in
    put_whole _ _ _ _ _ _ _ _ _ _ _ _ c.words_row.ensures whole c.put_part.ensures

pub offset_bounds-row-x : goal.offset_bounds-row-x
offset_bounds-row-x g c =
    let most = mul-le-mul {n₁ = c.loop-x.x} {n₂ = 64} (omega arith) g.met.W.GlassWord.small in
    omega (arith, most)

pub overflow_add-py : goal.overflow_add-py
overflow_add-py g c =
    let l = put_place _ _ _ _ c.requires.3 c.loop-x-test.true c.if-mask-x-eq1.true in
    omega (arith, l, c.requires.0, c.well_formed)

pub offset_bounds-picture-py : goal.offset_bounds-picture-py
offset_bounds-picture-py g c =
    let a = c.args in
    let in-w = put_place _ _ _ _ c.requires.3 c.loop-x-test.true c.if-mask-x-eq1.true in
    let there : a.s.py * a.s.w + (64 * a.s.tx + c.loop-x.x) < length a.picture.now = omega (arith, in-w, c.requires.0) in
    search (rules, there)

pub loop-x-init : goal.loop-x-init
loop-x-init g c = put_none _ _ _ _ _ _

pub bounds-picture-py : goal.bounds-picture-py
bounds-picture-py g c =
    let l = c.loop-x in
    let in-w = put_place _ _ _ _ c.requires.3 c.loop-x-test.true c.if-mask-x-eq1.true in
    omega (arith, in-w, c.requires.0, l.auto.picture)

pub loop-x-preserved : goal.loop-x-preserved
loop-x-preserved g c =
    let l = c.loop-x in
    elim c.if-mask-x-eq1.branch [
      | then-mask-x-eq1 v ↦ put_in _ _ _ _ _ _ _ _ _ l.invariant c.loop-x-test.true v.if-mask-x-eq1.true
          (ap (map _) v.picture-is ∙ number_put _ _ c.words_row.new.row _ l.x _ (omega (arith, c.loop-x-test.true, c.words_row.auto.row))
          (ap (get_or c.words_row.new.row l.x) v.index-row-x.is))
      | else-mask-x-eq1 v ↦ put_out _ _ _ _ _ _ _ _ _ l.invariant c.loop-x-test.true v.if-mask-x-eq1.false (ap (map _) v.picture-is)
    ]

pub returns : goal.returns
returns g c =
    put_all _ _ _ _ _ _ _ _ _ _ _ _ c.words_row.ensures _ c.loop-x.invariant (omega arith)
