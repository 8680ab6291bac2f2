-- All that specs/Request states is so.
-- Assumes nothing.
use Prim.Native.Nat.{ℕ, zero, suc, ◌+◌, ◌*◌, ◌≤◌}
use Rattle.std.specs.Prelude.{◌≡◌, List, [], ◌∷◌, leb, length, get_or}
use Rattle.plan.specs.Answer.{plan_number}
use Rattle.std.proofs.Math.Path.{refl, sym, subst}
use Rattle.std.proofs.Common.{◌∙◌, arith, le-leb}
use Rattle.whole.specs.Row.{◌!◌⨾◌, ◌⇒◌∣◌, ◌⨟◌}
use Rattle.whole.specs.laws.Row.{passes, stops, goes_on}
use Rattle.whole.specs.Among.{among, Among}
use Rattle.whole.specs.laws.Among.{numbers, said, each, among_then, among_all}
use Rattle.wire.specs.Wrote.{out_left}
use Rattle.bits.specs.laws.Bytes.{Bytes}
use Rattle.quants.specs.Quants.{quant_for, one_for}
use Rattle.frame_pieces.specs.Parts.{tiles_no}
use Rattle.frame_write.specs.Picked.{frame_picked, refusals_picked, send_fault_picked}
use Rattle.frame_write.specs.laws.Picked.{all_frame, all_picture}
use Rattle.frame_write.specs.laws.Stops.{none_stops}
use Rattle.frame_readback.specs.Own.{word_back, word_over}
use Rattle.bounds.specs.laws.Refuses.{tile_taken}
use Rattle.plan.specs.Plan.{picks_fault}
use Rattle.plan.specs.laws.Lists.{rising_few}
use Rattle.plan.specs.laws.Request.{fault_of_list}
use Rattle.short_write.specs.Short.{short_fault, ShortWritten}
use Rattle.short_write.specs.laws.Short.{OwnGood, own_good, list_good, short_once}
use Rattle.short_write.specs.laws.Numbers as ShortNumbers
use Rattle.short_readback.specs.Request.{WriteShort, own_of, check_of, RequestElevenFrames}
use Rattle.short_readback.specs.laws.AllTiles.{as_full, no_tiles}
use Rattle.short_readback.specs.laws.Full.{full_shows, as_the_full}
use Rattle.short_readback.specs.laws.Room.{short_fits}
use Rattle.short_readback.specs.laws.Shows.{checked, bytes_are, leaves_showing}

module _ (c : WriteShort) where
  abbrev list_fault : ℕ
  list_fault = picks_fault c.old c.new c.width c.height c.picks

  abbrev send-fault : ℕ
  send-fault = send_fault_picked c.index c.width c.height c.mode c.quants c.new c.picks (length c.out)

  number_is : plan_number c.answer ≡ (own_of c ⨟ (list_fault ⨟ send-fault))
  unfolding short_fault
  number_is = c.promise.wrote.number

  good : 0 ≡ own_of c → OwnGood c.width c.height c.mode c.quants c.old c.new (length c.list) (length c.scratch)
  good e = own_good c.width c.height c.mode c.quants c.old c.new (length c.list) (length c.scratch) e

  own_first : (own_of c ≡ 0 → ⊥) → plan_number c.answer ≡ own_of c
  own_first f = number_is ∙ sym (stops _ _ _ f refl)

  then_the_check : own_of c ≡ 0 → (check_of c ≡ 0 → ⊥) → plan_number c.answer ≡ check_of c
  then_the_check e f =
      let l = fault_of_list c.width c.height c.old c.new c.picks (good (sym e)).pictures list_fault refl in
      number_is ∙ (sym (goes_on _ _ _ e (stops _ _ _ (λ z. f (l ∙ z)) refl)) ∙ sym l)

  -- ---- 9 and 6 cannot happen

  abbrev most : List ℕ
  most = 0 ∷ 5 ∷ 7 ∷ 2 ∷ 16 ∷ 8 ∷ 17 ∷ 13 ∷ []

  module _ (bytes : Bytes c.new) where
    abbrev room : ℕ
    room = leb (length (frame_picked c.index c.width c.height c.mode c.quants c.new c.picks)) (length c.out) ! 13 ⨾ 0

    only_room : 0 ≡ own_of c → send-fault ≡ room
    unfolding send_fault_picked refusals_picked
    only_room e =
        let g = (good e).args.picture in
        sym (goes_on _ _ _ (sym (none_stops _ (λ i. tile_taken c.new c.width c.height c.mode c.quants bytes g.luma g.chroma
        (get_or c.picks i 0)) (length c.picks) 0)) refl)

    room_among : Among most room
    unfolding among
    room_among = search numbers

    later_among : 0 ≡ own_of c → Among most (list_fault ⨟ send-fault)
    unfolding each among
    later_among e =
        among_then _ _ (among_all _ (ShortNumbers.list_among c.old c.new c.width c.height c.picks) refl)
        (subst (Among most) (sym (only_room e)) room_among)

    never_refuses : Among most (plan_number c.answer)
    unfolding ◌⨟◌ each among
    never_refuses = subst (Among most) (sym number_is) (by (own_of c) refl)
      where
        by : (f : ℕ) → own_of c ≡ f → Among most (f ⨟ (list_fault ⨟ send-fault))
        by zero e = later_among (sym e)
        by (suc f) e =
            subst (Among most) e (among_all most
            (ShortNumbers.own_among c.width c.height c.mode c.quants (length c.old) (length c.new) (length c.list)
            (length c.scratch)) refl)

    -- ---- with room for a full frame there is no 13

    abbrev fewer : List ℕ
    fewer = 0 ∷ 5 ∷ 7 ∷ 2 ∷ 16 ∷ 8 ∷ 17 ∷ []

    module _ (fits : 77 + 196624 * tiles_no c.width c.height ≤ length c.out) where
      room_there : 0 ≡ own_of c → 0 ≡ list_fault → send-fault ≡ 0
      room_there e f =
          let o = good e in
          let g = o.args.picture in
          let a = list_good c.width c.height c.old c.new c.picks o.pictures f in
          let few = rising_few (tiles_no c.width c.height) c.picks a.order a.exist in
          let n =
          short_fits c.index c.width c.height c.mode c.quants c.new c.picks bytes g.luma g.chroma c.luma c.chroma few in
          only_room e
          ∙ sym (passes _ _ _ _ (le-leb (length (frame_picked c.index c.width c.height c.mode c.quants c.new c.picks)) (length c.out)
          (omega arith)) refl)

      later_there : 0 ≡ own_of c → Among fewer (list_fault ⨟ send-fault)
      unfolding ◌⨟◌ each among
      later_there e = by list_fault refl
        where
          by : (f : ℕ) → list_fault ≡ f → Among fewer (f ⨟ send-fault)
          by zero g = subst (Among fewer) (sym (room_there e (sym g))) (said refl)
          by (suc f) g = subst (Among fewer) g (among_all fewer (ShortNumbers.list_among c.old c.new c.width c.height c.picks) refl)

      always_room : Among fewer (plan_number c.answer)
      unfolding ◌⨟◌ each among
      always_room = subst (Among fewer) (sym number_is) (by (own_of c) refl)
        where
          by : (f : ℕ) → own_of c ≡ f → Among fewer (f ⨟ (list_fault ⨟ send-fault))
          by zero e = later_there (sym e)
          by (suc f) e =
              subst (Among fewer) e (among_all fewer
              (ShortNumbers.own_among c.width c.height c.mode c.quants (length c.old) (length c.new) (length c.list)
              (length c.scratch)) refl)

-- a refused writer leaves its output
refused_left : (f : ℕ) (bytes out : List ℕ) → (f ≡ 0 → ⊥) → out_left f bytes out ≡ out
unfolding out_left
refused_left zero bytes out n = absurd (n refl)
refused_left (suc f) bytes out n = refl

one_set_words : (glass : ℕ) (p : List ℕ) (w h : ℕ) (v : List ℕ) (k i : ℕ) → word_over glass p w h (one_for v) k i ≡ word_back glass p w h v k i
unfolding word_over word_back quant_for ◌⇒◌∣◌
one_set_words glass p w h v k i = refl

pub request_eleven_frames : RequestElevenFrames
request_eleven_frames = record {
  own_first = own_first;
  then_the_check = then_the_check;
  done_is_checked = checked;
  never_refuses = never_refuses;
  done_bytes = bytes_are;
  all_bytes = λ index w h mode q p. all_frame p w h mode q index;
  all_one_set = all_picture;
  all-tiles = λ c e l. as_full c.width c.height c.mode c.quants c.index c.old c.new c.list c.list' c.scratch c.scratch'
      c.out c.out' c.answer l
      (subst (λ (ks : List ℕ). ShortWritten c.width c.height c.mode c.quants c.index c.old c.new ks c.list c.list'
      c.scratch c.scratch' c.out c.out' c.answer) e c.promise);
  no_tiles = no_tiles;
  leaves_showing = λ glass either c e. leaves_showing c e glass either;
  full_shows = λ glass either c f o pic pic' r d. full_shows glass either c f o pic pic' r d;
  as_the_full = λ glass either c f e o pic a b r s shows d g. as_the_full glass either c f e o pic a b r s shows d g;
  always_room = always_room;
  one_set_words = one_set_words;
  one_answer = λ c list' scratch' out' r x. short_once _ _ _ _ _ _ _ _ _ _ _ _ _ _ _ _ _ _ _ c.promise x;
  work_untouched = λ c e. ShortNumbers.work_untouched _ _ _ _ _ _ _ _ _ _ _ _ _ _ _ c.promise e;
  work_zeros = λ c o. ShortNumbers.work_zeros _ _ _ _ _ _ _ _ _ _ _ _ _ _ _ c.promise o;
  refused_untouched = λ c n. c.promise.wrote.left ∙ refused_left _ _ c.out (λ z. n (c.promise.wrote.number ∙ z));
}
