-- Number, length and count are those of the filter's answer for the record that size and mode make (`tidy_call`).
use Rattle.panel.specs.laws.Tidy.{tidy_call}
use Rattle.panel.proofs.filter.xurbalenz_tidy_frame.Goals as goal

pub returns : goal.returns
returns c =
    let a = c.args in
    rw (c.told-on.ensures, c.number_of.ensures) (tidy_call a.sender a.width a.height a.mode c.side.result c.side-2.result c.of_numbers-s.result a.message.now
    a.list.now _ a.out.now _ c.tidy_frame-t.result c.side.ensures c.side-2.ensures c.of_numbers-s.ensures
    c.tidy_frame-t.ensures)
