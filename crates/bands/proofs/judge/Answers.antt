-- `bands::judge` meets its contract: one law of JudgeLaws for each of its four ways out, fed with the counts. Assumes nothing.
use mathlib.Core.Path.{◌≡◌, ap, ◌∙◌}
use native.Mathlib.Omega.{arith}
use Rattle.whole.specs.laws.Part.{part_length}
use Rattle.bands.specs.laws.Steps.{limit_of, limit_at}
use Rattle.bands.specs.laws.Band.{band_is, quant_is}
use Rattle.bands.specs.laws.Judge.{places_over, last_over, last_near, sums_over, none_is_over}
use Rattle.bands.proofs.judge.Goals as goal
use Rattle.bands.proofs.judge.Goals.{After-limit}

-- the limit of LL3's sums
limit_is : (c : After-limit) → c.limit.result ≡ limit_at c.args.q.v 4032
limit_is c =
    let q = c.args.q.v in
    let n = c.quant_of-n in
    let b = c.band_at in
    c.limit.ensures ∙ ap limit_of (quant_is q 4032 n.result b.result n.ensures.0 b.ensures)

pub returns-then-count_bands-ne0 : goal.returns-then-count_bands-ne0
returns-then-count_bands-ne0 c =
    let n = c.count_bands in
    places_over c.args.q.v c.args.work.now c.requires.0 n.result n.ensures c.if-count_bands-ne0.true

pub returns-then-count_over-ne0 : goal.returns-then-count_over-ne0
returns-then-count_over-ne0 c =
    let n = c.count_over in
    last_over c.args.q.v c.args.work.now c.requires.0 n.result n.ensures c.if-count_over-ne0.true

pub quant_of-n-requires : goal.quant_of-n-requires
quant_of-n-requires c =
    (c.requires.1, (band_is c.band_at.ensures).index)

pub count_sums-requires : goal.count_sums-requires
count_sums-requires c =
    let work = c.args.work.now in
    let n = c.count_over in (
      part_length work 4032 4096 (omega arith) (omega (arith, c.requires.0)),
      last_near c.args.q.v work c.requires.0 n.result n.ensures
          c.if-count_over-ne0.false,
    )

pub returns-then-count_sums-ne0 : goal.returns-then-count_sums-ne0
returns-then-count_sums-ne0 c =
    let n = c.count_sums in
    sums_over c.args.q.v c.args.work.now c.requires.0 c.limit.result n.result (limit_is (goal.at.returns-then-count_sums-ne0 c).After-limit) n.ensures
    c.if-count_sums-ne0.true

pub returns : goal.returns
returns c =
    let n = c.count_sums in
    none_is_over c.args.q.v c.args.work.now c.requires.0 c.limit.result n.result (limit_is (goal.at.returns c).After-limit) n.ensures c.count_bands.result
    c.count_over.result
    c.count_bands.ensures c.if-count_bands-ne0.false c.count_over.ensures c.if-count_over-ne0.false c.if-count_sums-ne0.false
