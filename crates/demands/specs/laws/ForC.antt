-- The demands over the panel's calls give the demands over the calls for C (`EdgeDemands`): each of these is one of the panel's (specs/laws/Edge).
use Rattle.std.specs.Prelude.{ℕ, [], ◌∷◌, take, drop}
use Rattle.std.proofs.Common.{sym, ap, subst, ◌∙◌}
use Rattle.std.proofs.Math.Path.{subst⁻¹}
use Rattle.whole.specs.Among.{Among, Other}
use Rattle.calls.specs.Calls.{CReadHeader, as_header, CReadFrame, as_frame, CWriteHeaders, CWriteFrame}
use Rattle.code.specs.Read.{reading_number, reading_bits}
use Rattle.demands.specs.Demands.{Demand1, OurCalls, Demand2, Demand3, EdgeDemand1, OurCallsC, OurFrameC, EdgeDemand2, EdgeDemand3, EdgeDemands}
use Rattle.demands.specs.laws.Edge.{as_read, as_write, write_is, as_headers, headers_is, as_send, send_is}

edge_1 : Demand1 → EdgeDemand1
edge_1 d = record {
  header-number = λ c. c.promise.number ∙ d.header-number (as_header c);
  frame-number = λ c. c.promise.number ∙ d.frame-number (as_frame c);
  frame_whole = λ c k. d.frame_whole (as_frame c) (sym c.promise.number ∙ k);
  header_taken = λ c k. c.promise.session ∙ d.header_taken (as_header c) (sym c.promise.number ∙ k);
  header_refused = λ c h. c.promise.session ∙ d.header_refused (as_header c) (λ e. h (c.promise.number ∙ e));
  frame_refused = λ c h. d.frame_refused (as_frame c) (λ e. h (c.promise.number ∙ e));
  frame_keeps = λ c. c.promise.session;
  lists_untouched = λ c e. d.lists_untouched (as_frame c) (subst (Among (12 ∷ 2 ∷ [])) c.promise.number e);
  lists_zeros = λ c e. d.lists_zeros (as_frame c) (subst (Other (12 ∷ 2 ∷ [])) c.promise.number e);
  list_untouched = λ c e. d.list_untouched (as_read c) (subst (Among (5 ∷ 2 ∷ 6 ∷ [])) c.promise.number e);
  list_zeros = λ c e. d.list_zeros (as_read c) (subst (Among (1 ∷ 9 ∷ 10 ∷ 11 ∷ [])) c.promise.number e);
}

module _ (h : CWriteHeaders) (one two three four : CReadHeader) (s : CWriteFrame) (f : CReadFrame) (o : OurCallsC h one two three four s f) where
  -- the same calls, as the panel's
  our_calls : OurCalls (as_headers h) (as_header one) (as_header two) (as_header three) (as_header four) (as_send s) (as_frame f)
  our_calls =
      let k = (headers_is h).1 in
      record {
        headers_done = sym (headers_is h).0 ∙ o.headers_done;
        sync = o.sync ∙ ap (λ (n : ℕ). take 12 (take n h.out')) k;
        versions = o.versions ∙ ap (λ (n : ℕ). take 10 (drop 12 (take n h.out'))) k;
        channels = o.channels ∙ ap (λ (n : ℕ). take 12 (drop 22 (take n h.out'))) k;
        context = o.context ∙ ap (λ (n : ℕ). take 13 (drop 34 (take n h.out'))) k;
        glass = o.glass;
        then_two = o.then_two ∙ one.promise.session;
        then_three = o.then_three ∙ two.promise.session;
        then_four = o.then_four ∙ three.promise.session;
        same_width = o.same_width;
        same_height = o.same_height;
        same_mode = o.same_mode;
        ten = o.ten;
        frame_done = sym (send_is s).0 ∙ o.frame_done;
        frame = o.frame ∙ ap (λ (n : ℕ). take n s.out') (send_is s).1;
        then_frame = o.then_frame ∙ four.promise.session;
        y_long = o.y_long;
        cb_long = o.cb_long;
        cr_long = o.cr_long;
        scratch_long = o.scratch_long;
        room = o.room;
      }

  our_frame : Demand2 → OurFrameC one two three four s f
  our_frame d =
      let r = d.our_frames _ _ _ _ _ _ _ our_calls in
      record {
        sync_taken = one.promise.number ∙ r.sync_taken;
        versions_taken = two.promise.number ∙ r.versions_taken;
        channels_taken = three.promise.number ∙ r.channels_taken;
        context_taken = four.promise.number ∙ r.context_taken;
        accepted = f.promise.number ∙ r.accepted;
        tiles = f.promise.count ∙ r.tiles;
        word = r.word;
        past = r.past;
        long = r.long;
      }

edge_2 : Demand2 → EdgeDemand2
edge_2 d = record {
  pixel = λ c k px py a b. d.pixel (as_frame c) (sym c.promise.number ∙ k) px py a b;
  past = λ c i l. d.past (as_frame c) i l;
  long = λ c. d.long (as_frame c);
  tiles = λ c k. c.promise.count ∙ d.tiles (as_frame c) (sym c.promise.number ∙ k);
  no_tiles = λ c h. c.promise.count ∙ d.no_tiles (as_frame c) (λ e. h (c.promise.number ∙ e));
  our_frames = λ h one two three four s f o. our_frame h one two three four s f o d;
  frame-writer = λ c. c.promise.wrote.number;
  header_writer = λ c. c.promise.number;
  frame-sent = λ c. rw ((send_is c).0, (send_is c).1) (d.frame-sent (as_send c));
  headers_sent = λ c. rw ((headers_is c).0, (headers_is c).1) (d.headers_sent (as_headers c));
  writer_refuses = λ c b. subst⁻¹ (Among (0 ∷ 5 ∷ 7 ∷ 2 ∷ 13 ∷ [])) (send_is c).0 (d.writer_refuses (as_send c) b);
  writer_done = λ c b e ten l. (send_is c).0 ∙ d.writer_done (as_send c) b e ten l;
  work_untouched = λ c e. d.work_untouched (as_send c) (subst (Among (5 ∷ 7 ∷ 2 ∷ [])) (send_is c).0 e);
  work_zeros = λ c e. d.work_zeros (as_send c) (subst (Other (5 ∷ 7 ∷ 2 ∷ [])) (send_is c).0 e);
}

edge_3 : Demand3 → EdgeDemand3
unfolding reading_number reading_bits
edge_3 d = record {
  component-number = λ c. c.promise.number ∙ d.component-number (as_read c);
  accepted_if = λ c zs e.
      let r = d.accepted_if (as_read c) zs e in
      (c.promise.number ∙ ap reading_number r.0, c.promise.long ∙ ap reading_bits r.0, r.1);
  accepted_only_if = λ c k. d.accepted_only_if (as_read c) (sym c.promise.number ∙ k);
  length_told = λ c zs rest a l e. c.promise.long ∙ d.length_told (as_read c) zs rest a l e;
  writer_number = λ c. c.promise.number;
  writer_sent = λ c. rw ((write_is c).0, (write_is c).1) (d.writer_sent (as_write c));
  read_back = λ w c k m b l.
      let r = d.read_back (as_write w) (as_read c) (sym (write_is w).0 ∙ k) m (b ∙ ap (λ (n : ℕ). take n w.out') (write_is w).1) l in
      (c.promise.number ∙ ap reading_number r.0, c.promise.long ∙ ap reading_bits r.0, r.1);
}

pub edge_demands : Demand1 → Demand2 → Demand3 → EdgeDemands
edge_demands one two three = record { one = edge_1 one; two = edge_2 two; three = edge_3 three }
