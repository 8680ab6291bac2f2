-- Which numbers the header call answers.
use Rattle.std.specs.Prelude.{ℕ, List, [], ◌∷◌}
use Rattle.whole.specs.Among.{among, Among}
use Rattle.whole.specs.laws.Among.{numbers}
use Rattle.session.specs.declared.Session.{Session}
use Rattle.session.specs.Header.{sync_judge, versions_judge, channels_judge, context_judge, head_judge}
use Rattle.session.specs.Header.{sync_fault, versions_fault, channels_fault, context_fault, field_fault, header_fault}

abbrev pub header_numbers : List ℕ
header_numbers = 0 ∷ 1 ∷ 3 ∷ 12 ∷ 4 ∷ 5 ∷ []

head_among : (s : Session) (t size len : ℕ) → Among header_numbers (head_judge s t size len)
unfolding head_judge among
head_among s t size len = search numbers depth 9

sync_among : (m : List ℕ) → Among header_numbers (sync_fault m)
unfolding sync_fault sync_judge among
sync_among m = search numbers

versions_among : (m : List ℕ) → Among header_numbers (versions_fault m)
unfolding versions_fault versions_judge among
versions_among m = search numbers

channels_among : (m : List ℕ) → Among header_numbers (channels_fault m)
unfolding channels_fault channels_judge among
channels_among m = search numbers

context_among : (m : List ℕ) → Among header_numbers (context_fault m)
unfolding context_fault context_judge among
context_among m = search numbers depth 9

field_among : (m : List ℕ) (t : ℕ) → Among header_numbers (field_fault m t)
unfolding field_fault among
field_among m t = search (numbers, sync_among, versions_among, channels_among, context_among)

pub header_among : (s : Session) (m : List ℕ) → Among header_numbers (header_fault s m)
unfolding header_fault among
header_among s m = search (numbers, head_among, field_among) depth 9
