-- The four bytes of the head (`head_known`).
use Rattle.app_compare.specs.laws.Files.{head_known}
use Rattle.app_compare.proofs.files.head.Goals as goal

pub returns : goal.returns
returns c =
    let r = c.read_into-n in
    head_known _ r.new.part _ r.result _ r.auto.part r.ensures.1 c.first.ensures
    c.pic_of.ensures
