-- The part that was read into is the front of the list (`read_front`).
use mathlib.Core.Path.{◌∙◌}
use Rattle.app_compare.specs.laws.Files.{read_front, front_length}
use Rattle.app_compare.proofs.files.read_at.Goals as goal

pub returns : goal.returns
returns c =
    let r = c.read_into in
    read_front _ c.args.place c.args.size r.result r.new.part _ r.ensures.0
    (r.auto.part ∙ front_length c.args.row.now c.args.size c.requires.1) r.ensures.1
