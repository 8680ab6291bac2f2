-- Where there is room for the largest frame, nothing has to be measured: no tile is refused (`tile_taken` of `bounds`), and the frame of any n tiles fits.
use Rattle.std.specs.Prelude.{ℕ, ◌+◌, ◌*◌, ◌≤◌, ◌≡◌, refl, Bool, true, false, List, ℤ, length, Ok}
use Rattle.std.proofs.Common.{arith}
use Rattle.whole.specs.Row.{◌⇒◌∣◌}
use Rattle.wire.specs.Le.{written}
use Rattle.wire.specs.Wrote.{Wrote}
use Rattle.bits.specs.laws.Bytes.{Bytes}
use Rattle.frame_layout.specs.Bytes.{tiles_of}
use Rattle.quants.specs.Quants.{same, chroma_index}
use Rattle.quants.specs.declared.Quants.{Quants}
use Rattle.frame_write.specs.Job.{tile_sent, stop_sent, stops_sent, frame_sent, fault_sent, sent_at, JobReady, JobSends}
use Rattle.frame_write.specs.laws.Encode.{tile_small, stops_small, sizes_done}
use Rattle.frame_write.specs.laws.FrameWrite.{send_done}
use Rattle.frame_write.specs.laws.Stops.{none_stops}
use Rattle.frame_write.specs.declared.size.Job.{Job}
use Rattle.bounds.specs.laws.Refuses.{tile_taken}
use Rattle.frame_send.specs.Room.{largest}

index_few : (q : Quants) → chroma_index q ≤ 1
unfolding chroma_index ◌⇒◌∣◌
index_few q = go (same q)
  where
    go : (b : Bool) → (b ⇒ 0 ∣ 1) ≤ 1
    go true = omega arith
    go false = omega arith

module _ (j : Job) (p ks : List ℕ) (n : ℕ) (list scratch : List ℤ) (bytes : Bytes p) (good : JobReady j p list scratch) (sends : JobSends j ks n) where
  pub none_stopped : 0 ≡ stops_sent j p ks n
  none_stopped =
      none_stops (stop_sent j p ks)
      (λ i. tile_taken p j.width j.height j.mode j.quants bytes good.picture.luma good.picture.chroma (sent_at ks i)) n 0

  pub fits : (room : ℕ) → largest n ≤ room → 72 + 5 * chroma_index j.quants + length (tiles_of (tile_sent j p ks) n 0) ≤ room
  fits room r =
      let few = index_few j.quants in
      let most =
      stops_small (tile_sent j p ks) (stop_sent j p ks) (λ i. tile_small p j.width j.height j.mode j.quants (sent_at ks i)) n 0 none_stopped in
      omega arith

  -- written at once: the frame, and nothing refused
  pub sent_once :
      (out out' : List ℕ) (b : ℕ) → length j.quants.luma.v ≡ 10 → length j.quants.chroma.v ≡ 10 → largest n ≤ length out →
      out' ≡ written (frame_sent j p ks n) out → b ≡ length (frame_sent j p ks n) →
      Wrote (fault_sent j p ks n (length out)) (frame_sent j p ks n) out out' (Ok b)
  sent_once out out' b l k r w e =
      send_done j.index j.width j.height j.mode j.quants out n (tile_sent j p ks) (stop_sent j p ks) l k (length (tiles_of (tile_sent j p ks) n 0))
      (sizes_done _ _ _ none_stopped refl) (fits (length out) r) out' b w e
