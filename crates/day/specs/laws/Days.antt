-- All that specs/Days states is so.
use Rattle.day.specs.Days.{Days}
use Rattle.day.specs.laws.Step.{sync_taken, some_struck, struck_strikes, none_left}
use Rattle.day.specs.laws.Drawn.{drawn}
use Rattle.day.specs.laws.Pixel.{pixel, long}
use Rattle.day.specs.laws.Once.{once, again, can_be_made}
use Rattle.day.specs.laws.ForC.{day_c, number-c}
use Rattle.day.specs.laws.Front.{refusal_no_call, however_cut, can_be_gathered, same_day, can_be_collected}

pub days : Days
days = record {
  drawn = λ {s} {t} {cs} d. drawn s t cs d;
  pixel = λ {s} {t} {cs} d i. pixel s t cs d i;
  long = λ {s} {t} {cs} d. long s t cs d;
  all_struck = λ {s} {t} {cs} d. some_struck d (struck_strikes cs);
  none_left = none_left;
  some_struck = some_struck;
  again = again;
  sync = sync_taken;
  once = once;
  can_be_made = can_be_made;
  for_c = λ {s} {t} {cs} d. day_c s t cs d;
  number-c = number-c;
  collected = λ {k} {pss} {s} {t} {cs} d. (drawn s t cs d.day, some_struck d.day (struck_strikes cs));
  refusal_no_call = refusal_no_call;
  however_cut = λ {k} {l} {m} {pss} {qss} {hs} {ks} x y e b. however_cut k l m pss qss hs ks x y e b;
  can_be_gathered = can_be_gathered;
  same_day = same_day;
  can_be_collected = can_be_collected;
}
