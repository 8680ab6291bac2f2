-- One answer of every call that a request brought: each promise names each number and each list at exit by what came in, so two that meet it are equal.
use Rattle.std.proofs.Common.{sym, ◌∙◌}
use Rattle.panel.specs.laws.Short.{short_once}
use Rattle.panel.specs.laws.Tidy.{tidy_once, held_once}
use Rattle.demands.specs.EveryCall.{OneCollector, OneSettings, OneShort, OneCapabilities, OneFilter, OneDiffer, EveryCall}
use Rattle.demands.specs.laws.Edge.{write_call_once}

one_collector : OneCollector
one_collector = record {
  collect = λ c c₁ c₂ bytes store s₁ s₂ g₁ g₂ k₁ k₂ t₁ t₂ n₁ n₂ x y. (
    x.number ∙ sym y.number,
    x.goes ∙ sym y.goes,
    x.long ∙ sym y.long,
    x.took ∙ sym y.took,
    x.collector ∙ sym y.collector,
    x.left ∙ sym y.left,
  );
  collect_reset = λ c₁ c₂ x y. x ∙ sym y;
}

one_settings : OneSettings
one_settings = record {
  read-settings = λ newest m l₁ l₂ c₁ c₂ e₁ e₂ n₁ n₂ x y.
      (x.said ∙ sym y.said, x.luma_is ∙ sym y.luma_is, x.chroma_is ∙ sym y.chroma_is, x.mode_is ∙ sym y.mode_is);
  write-settings = λ luma chroma mode out o₁ o₂ k₁ k₂ n₁ n₂ x y. write_call_once _ _ out o₁ o₂ k₁ k₂ n₁ n₂ x y;
  write-frame-sets = λ w h mode luma chroma index p list l₁ l₂ scratch t₁ t₂ out o₁ o₂ k₁ k₂ n₁ n₂ x y.
      let o = write_call_once _ _ out o₁ o₂ k₁ k₂ n₁ n₂ x.wrote y.wrote in
      (o.0, o.1, x.first ∙ sym y.first, x.second ∙ sym y.second, o.2);
}

one_short : OneShort
one_short = record {
  check-plan = λ w h old new ks n₁ n₂ x y. x ∙ sym y;
  make-plan = λ w h old new out o₁ o₂ k₁ k₂ n₁ n₂ x y. (x.said ∙ sym y.said, x.count_is ∙ sym y.count_is, x.left ∙ sym y.left);
  write-frame-short = λ w h mode luma chroma index old new ks list l₁ l₂ scratch t₁ t₂ out o₁ o₂ k₁ k₂ n₁ n₂ x y.
      short_once w h mode luma chroma index old new ks list scratch out l₁ l₂ t₁ t₂ o₁ o₂ k₁ k₂ n₁ n₂ x y;
}

one_capabilities : OneCapabilities
one_capabilities = record {
  read-caps = λ m f₁ f₂ c₁ c₂ e₁ e₂ n₁ n₂ x y.
      (x.said ∙ sym y.said, x.flags_are ∙ sym y.flags_are, x.n_is ∙ sym y.n_is, x.entries_are ∙ sym y.entries_are);
  write-caps = λ flags n es out o₁ o₂ k₁ k₂ n₁ n₂ x y. write_call_once _ _ out o₁ o₂ k₁ k₂ n₁ n₂ x y;
  read-ack-cap = λ m c₁ c₂ n₁ n₂ x y. (x.said ∙ sym y.said, x.count_is ∙ sym y.count_is);
  write-ack-cap = λ count out o₁ o₂ k₁ k₂ n₁ n₂ x y. write_call_once _ _ out o₁ o₂ k₁ k₂ n₁ n₂ x y;
  read-ack = λ m f₁ f₂ n₁ n₂ x y. (x.said ∙ sym y.said, x.fields_are ∙ sym y.fields_are);
  write-ack = λ version source share pad stream uncompressed compression compressed frame out o₁ o₂ k₁ k₂ n₁ n₂ x y.
      write_call_once _ _ out o₁ o₂ k₁ k₂ n₁ n₂ x y;
}

one_filter : OneFilter
one_filter = record {
  tidy-frame = λ sender w h mode m list l₁ l₂ out o₁ o₂ t₁ t₂ n₁ n₂ x y. tidy_once sender w h mode m list l₁ l₂ out o₁ o₂ t₁ t₂ n₁ n₂ x y;
  tidy_header = λ held h₁ h₂ block out o₁ o₂ k₁ k₂ n₁ n₂ x y. held_once _ _ _ held h₁ h₂ out o₁ o₂ k₁ k₂ n₁ n₂ x y;
  tidy_flush = λ held h₁ h₂ out o₁ o₂ k₁ k₂ n₁ n₂ x y. held_once _ _ _ held h₁ h₂ out o₁ o₂ k₁ k₂ n₁ n₂ x y;
}

one_differ : OneDiffer
one_differ = record {
  count-tiles = λ w h old new counts c₁ c₂ n₁ n₂ x y. (x.number ∙ sym y.number, x.left ∙ sym y.left);
  next-tile = λ w h cs from t₁ t₂ x₁ x₂ y₁ y₂ k₁ k₂ n₁ n₂ x y.
      (x.said ∙ sym y.said, x.tile_is ∙ sym y.tile_is, x.column ∙ sym y.column, x.row ∙ sym y.row, x.count ∙ sym y.count);
}

pub every_call : EveryCall
every_call = record {
  one = one_collector;
  five = one_settings;
  eleven = one_short;
  twelve = one_capabilities;
  filter = one_filter;
  differ = one_differ;
  record_16 = λ n₁ n₂ x y. x ∙ sym y;
}
