-- Laws of the short frame's writer: what good arguments and a good list give, and one law for each way out. Its promise leaves one answer and one content of
-- lent memory.
-- Assumes nothing.
use Rattle.std.specs.Prelude.{ℕ, ◌≤◌, ◌<◌, ◌≡◌, List, ℤ, pos, length, replicate, Result, Err}
use Rattle.std.proofs.Common.{sym, ◌∙◌, arith, eqb-true}
use Rattle.whole.specs.Row.{◌⨟◌}
use Rattle.whole.specs.laws.Row.{held, both, stops}
use Rattle.wire.specs.Le.{bytes16}
use Rattle.wire.specs.Refusal.{refusal_number}
use Rattle.wire.specs.laws.Refusal.{number_pos}
use Rattle.wire.specs.declared.Refusal.{Refusal}
use Rattle.session.specs.Header.{size_good}
use Rattle.quants.specs.declared.Quants.{Quants}
use Rattle.frame_layout.specs.Bytes.{begin_of, front_of, frame_of}
use Rattle.frame_pieces.specs.Parts.{pixels_good}
use Rattle.frame_write.specs.Sets.{arg_fault_over}
use Rattle.frame_write.specs.Picked.{frame_picked, send_fault_picked}
use Rattle.frame_write.specs.Job.{ArgsGood, TilesThere}
use Rattle.frame_write.specs.laws.Encode.{few}
use Rattle.frame_write.specs.laws.FrameWrite.{args_good, untouched, cleared}
use Rattle.frame_write.specs.laws.Picked.{sent_is}
use Rattle.plan.specs.Plan.{picks_fault, plan_fault, Pictures}
use Rattle.plan.specs.Facts.{Acceptable}
use Rattle.plan.specs.laws.Lists.{rising_few}
use Rattle.plan.specs.laws.Changed.{size_allowed}
use Rattle.plan.specs.laws.Request.{fault_of_list, accepted_good}
use Rattle.short_write.specs.Answer.{WroteShort}
use Rattle.short_write.specs.Short.{own_fault, short_fault, ShortWritten}
use Rattle.short_write.specs.laws.Answer.{refused_short, onward_short, wrote_short_once}
use Rattle.plan.specs.declared.check.PlanRefusal.{PlanRefusal}
use Rattle.plan.specs.declared.check.PlanRefusal.TheVariants.{Common}

-- ---- the arguments, and the list

pub record OwnGood (w h mode : ℕ) (q : Quants) (old new : List ℕ) (list scratch : ℕ) : Type 0 where
  pub args : ArgsGood w h mode q new list scratch
  pub pictures : Pictures w h old new

pub own_good : (w h mode : ℕ) (q : Quants) (old new : List ℕ) (list scratch : ℕ) →
    0 ≡ own_fault w h mode q (length old) (length new) list scratch → OwnGood w h mode q old new list scratch
unfolding own_fault pixels_good
own_good w h mode q old new list scratch e =
    let f = both (arg_fault_over w h mode q (length new) list scratch) _ e in
    let g = args_good w h mode q new list scratch f.0 in
    let p = g.picture in
    record {
      args = g;
      pictures = record {
        size = record { wide = p.wide; wider = p.wider; high = p.high; higher = p.higher };
        lengths = record { old_long = eqb-true _ _ (held _ _ _ _ (λ z. omega arith) f.1).0; new_long = p.pixels };
      };
    }

-- the size is judged first
pub own_size : (w h mode : ℕ) (q : Quants) (pixels list scratch : ℕ) → 0 ≡ arg_fault_over w h mode q pixels list scratch → (w ≤ 4096) × (h ≤ 2048)
unfolding arg_fault_over
own_size w h mode q pixels list scratch e =
    let s = size_allowed w h (held (size_good w h) 5 _ 0 (λ z. omega arith) e).0 in
    (s.most_w, s.most_h)

module _ (w h : ℕ) (old new ks : List ℕ) (p : Pictures w h old new) (e : 0 ≡ picks_fault old new w h ks) where
  -- "this check" is passed
  pub check_passed : plan_fault w h old new ks ≡ 0
  check_passed = fault_of_list w h old new ks p 0 e

  pub list_good : Acceptable w h old new ks
  list_good = accepted_good w h old new ks check_passed

  pub list_there : TilesThere w h ks (length ks)
  list_there =
      let a = list_good in
      record {
        few = omega (arith, rising_few _ ks a.order a.exist, few w h p.size.wider p.size.higher);
        there = λ i l. omega (arith, sent_is ks i l, a.exist i l);
      }

-- ---- the answers

module _ (w h mode : ℕ) (q : Quants) (index : ℕ) (old new ks : List ℕ) (list scratch : List ℤ) (out : List ℕ) where
  abbrev own : ℕ
  own = own_fault w h mode q (length old) (length new) (length list) (length scratch)

  pub short_refused : (x : Refusal) → refusal_number x ≡ own → ShortWritten w h mode q index old new ks list list scratch scratch out out (Err (Common x))
  unfolding short_fault
  short_refused x is = record {
    wrote = refused_short _ (Common x) _ out (stops _ _ _ (λ z. number_pos x (is ∙ z)) is);
    first = untouched _ _ list is (number_pos x);
    second = untouched _ _ scratch is (number_pos x);
  }

  pub short_sent : 0 ≡ own → (list' scratch' : List ℤ) (out' : List ℕ) (r : Result ℕ PlanRefusal) →
      WroteShort (picks_fault old new w h ks ⨟ send_fault_picked index w h mode q new ks (length out)) (frame_picked index w h mode q new ks) out out' r →
      list' ≡ replicate 4096 (pos 0) → scratch' ≡ replicate 4096 (pos 0) → ShortWritten w h mode q index old new ks list list' scratch scratch' out out' r
  unfolding short_fault
  short_sent z list' scratch' out' r s c d = record {
    wrote = onward_short _ _ _ out out' r z s;
    first = cleared _ list list' z c;
    second = cleared _ scratch scratch' z d;
  }

-- ---- the promise leaves one answer, one output and one content of each work list

-- a done answer says a length that no refusal says
some_frame : (index w h mode : ℕ) (q : Quants) (p ks : List ℕ) → 0 < length (frame_picked index w h mode q p ks)
unfolding frame_picked frame_of front_of begin_of bytes16
some_frame index w h mode q p ks = omega arith

pub short_once :
    (w h mode : ℕ) (q : Quants) (index : ℕ) (old new ks : List ℕ) (list a a' scratch b b' : List ℤ) (out c c' : List ℕ) (r r' : Result ℕ PlanRefusal)
    → ShortWritten w h mode q index old new ks list a scratch b out c r
    → ShortWritten w h mode q index old new ks list a' scratch b' out c' r'
    → (r ≡ r') × (a ≡ a') × (b ≡ b') × (c ≡ c')
short_once w h mode q index old new ks list a a' scratch b b' out c c' r r' x y =
    let o = wrote_short_once _ _ out c c' r r' x.wrote y.wrote in
    (o.0, x.first ∙ sym y.first, x.second ∙ sym y.second, o.1)
