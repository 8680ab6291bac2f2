-- THE OTHER CALLS FOR C, of the requests in document 02: "a public function's promise leaves one possible answer and one possible content of lent memory", one
-- statement a call, in the groups that panel/src has them in. What one call and another left is marked 1 and 2. (`OneAnswerC` has the six of the base, and
-- laws/EveryCall proves these.)
-- (01 is this project's scope document, 02 its change requests, 001 is MS-RDPRFX: README, "What 01 is".)
use Rattle.std.specs.Prelude.{ℕ, ◌≡◌, List, ℤ}
use Rattle.collect.specs.declared.Collector.{Collector}
use Rattle.collect.specs.Collect.{fresh}
use Rattle.plan.specs.Plan.{plan_fault}
use Rattle.plan.specs.Made.{MakePlanCall}
use Rattle.panel.specs.Cabinet.{ReadSettingsCall, WriteSettingsCall, WriteFrameSetsCall}
use Rattle.panel.specs.Capabilities.{ReadCapsCall, WriteCapsCall, ReadAckCapCall, WriteAckCapCall, ReadAckCall, WriteAckCall}
use Rattle.panel.specs.Collector.{CollectCall}
use Rattle.panel.specs.Short.{WriteShortCall}
use Rattle.panel.specs.Tidy.{TidyFrameCall, TidyHeaderCall, TidyFlushCall}
use Rattle.panel.specs.Differ.{NextTileCall}
use Rattle.tile_diff.specs.Pictures.{TilesCounted}

-- ---- request One, panel/src/collector.rt

pub record OneCollector : Type 0 where
  pub collect :
      (c c₁ c₂ : Collector) (bytes store s₁ s₂ : List ℕ) (g₁ g₂ k₁ k₂ t₁ t₂ n₁ n₂ : ℕ) → CollectCall c c₁ bytes store s₁ g₁ k₁ t₁ n₁ →
      CollectCall c c₂ bytes store s₂ g₂ k₂ t₂ n₂ → (n₁ ≡ n₂) × (g₁ ≡ g₂) × (k₁ ≡ k₂) × (t₁ ≡ t₂) × (c₁ ≡ c₂) × (s₁ ≡ s₂)
  pub collect_reset : (c₁ c₂ : Collector) → c₁ ≡ fresh → c₂ ≡ fresh → c₁ ≡ c₂

-- ---- request Five, panel/src/cabinet.rt

pub record OneSettings : Type 0 where
  pub read-settings :
      (newest : ℕ) (m l₁ l₂ c₁ c₂ : List ℕ) (e₁ e₂ n₁ n₂ : ℕ) → ReadSettingsCall newest m l₁ c₁ e₁ n₁ → ReadSettingsCall newest m l₂ c₂ e₂ n₂ →
      (n₁ ≡ n₂) × (l₁ ≡ l₂) × (c₁ ≡ c₂) × (e₁ ≡ e₂)
  pub write-settings :
      (luma chroma : List ℕ) (mode : ℕ) (out o₁ o₂ : List ℕ) (k₁ k₂ n₁ n₂ : ℕ) → WriteSettingsCall luma chroma mode out o₁ k₁ n₁ →
      WriteSettingsCall luma chroma mode out o₂ k₂ n₂ → (n₁ ≡ n₂) × (k₁ ≡ k₂) × (o₁ ≡ o₂)
  pub write-frame-sets :
      (w h mode : ℕ) (luma chroma : List ℕ) (index : ℕ) (p : List ℕ) (list l₁ l₂ scratch t₁ t₂ : List ℤ) (out o₁ o₂ : List ℕ) (k₁ k₂ n₁ n₂ : ℕ) →
      WriteFrameSetsCall w h mode luma chroma index p list l₁ scratch t₁ out o₁ k₁ n₁ →
      WriteFrameSetsCall w h mode luma chroma index p list l₂ scratch t₂ out o₂ k₂ n₂ → (n₁ ≡ n₂) × (k₁ ≡ k₂) × (l₁ ≡ l₂) × (t₁ ≡ t₂) × (o₁ ≡ o₂)

-- ---- request Eleven, panel/src/short.rt

pub record OneShort : Type 0 where
  pub check-plan : (w h : ℕ) (old new ks : List ℕ) (n₁ n₂ : ℕ) → n₁ ≡ plan_fault w h old new ks → n₂ ≡ plan_fault w h old new ks → n₁ ≡ n₂
  pub make-plan :
      (w h : ℕ) (old new out o₁ o₂ : List ℕ) (k₁ k₂ n₁ n₂ : ℕ) → MakePlanCall w h old new out o₁ k₁ n₁ → MakePlanCall w h old new out o₂ k₂ n₂ →
      (n₁ ≡ n₂) × (k₁ ≡ k₂) × (o₁ ≡ o₂)
  pub write-frame-short :
      (w h mode : ℕ) (luma chroma : List ℕ) (index : ℕ) (old new ks : List ℕ) (list l₁ l₂ scratch t₁ t₂ : List ℤ) (out o₁ o₂ : List ℕ)
      (k₁ k₂ n₁ n₂ : ℕ) → WriteShortCall w h mode luma chroma index old new ks list l₁ scratch t₁ out o₁ k₁ n₁ →
      WriteShortCall w h mode luma chroma index old new ks list l₂ scratch t₂ out o₂ k₂ n₂ → (n₁ ≡ n₂) × (k₁ ≡ k₂) × (l₁ ≡ l₂) × (t₁ ≡ t₂) × (o₁ ≡ o₂)

-- ---- request Twelve, panel/src/capabilities.rt

pub record OneCapabilities : Type 0 where
  pub read-caps :
      (m : List ℕ) (f₁ f₂ c₁ c₂ : ℕ) (e₁ e₂ : List ℕ) (n₁ n₂ : ℕ) → ReadCapsCall m f₁ c₁ e₁ n₁ → ReadCapsCall m f₂ c₂ e₂ n₂ →
      (n₁ ≡ n₂) × (f₁ ≡ f₂) × (c₁ ≡ c₂) × (e₁ ≡ e₂)
  pub write-caps :
      (flags n : ℕ) (es out o₁ o₂ : List ℕ) (k₁ k₂ n₁ n₂ : ℕ) → WriteCapsCall flags n es out o₁ k₁ n₁ → WriteCapsCall flags n es out o₂ k₂ n₂ →
      (n₁ ≡ n₂) × (k₁ ≡ k₂) × (o₁ ≡ o₂)
  pub read-ack-cap : (m : List ℕ) (c₁ c₂ n₁ n₂ : ℕ) → ReadAckCapCall m c₁ n₁ → ReadAckCapCall m c₂ n₂ → (n₁ ≡ n₂) × (c₁ ≡ c₂)
  pub write-ack-cap :
      (count : ℕ) (out o₁ o₂ : List ℕ) (k₁ k₂ n₁ n₂ : ℕ) → WriteAckCapCall count out o₁ k₁ n₁ → WriteAckCapCall count out o₂ k₂ n₂ →
      (n₁ ≡ n₂) × (k₁ ≡ k₂) × (o₁ ≡ o₂)
  pub read-ack : (m f₁ f₂ : List ℕ) (n₁ n₂ : ℕ) → ReadAckCall m f₁ n₁ → ReadAckCall m f₂ n₂ → (n₁ ≡ n₂) × (f₁ ≡ f₂)
  pub write-ack :
      (version source share pad stream uncompressed compression compressed frame : ℕ) (out o₁ o₂ : List ℕ) (k₁ k₂ n₁ n₂ : ℕ) →
      WriteAckCall version source share pad stream uncompressed compression compressed frame out o₁ k₁ n₁ →
      WriteAckCall version source share pad stream uncompressed compression compressed frame out o₂ k₂ n₂ → (n₁ ≡ n₂) × (k₁ ≡ k₂) × (o₁ ≡ o₂)

-- ---- what other senders write, panel/src/filter.rt

pub record OneFilter : Type 0 where
  pub tidy-frame :
      (sender w h mode : ℕ) (m : List ℕ) (list l₁ l₂ : List ℤ) (out o₁ o₂ t₁ t₂ : List ℕ) (n₁ n₂ : ℕ) →
      TidyFrameCall sender w h mode m list l₁ out o₁ t₁ n₁ → TidyFrameCall sender w h mode m list l₂ out o₂ t₂ n₂ →
      (n₁ ≡ n₂) × (t₁ ≡ t₂) × (l₁ ≡ l₂) × (o₁ ≡ o₂)
  pub tidy_header :
      (held h₁ h₂ block out o₁ o₂ : List ℕ) (k₁ k₂ n₁ n₂ : ℕ) → TidyHeaderCall held h₁ block out o₁ k₁ n₁ → TidyHeaderCall held h₂ block out o₂ k₂ n₂ →
      (n₁ ≡ n₂) × (k₁ ≡ k₂) × (h₁ ≡ h₂) × (o₁ ≡ o₂)
  pub tidy_flush :
      (held h₁ h₂ out o₁ o₂ : List ℕ) (k₁ k₂ n₁ n₂ : ℕ) → TidyFlushCall held h₁ out o₁ k₁ n₁ → TidyFlushCall held h₂ out o₂ k₂ n₂ →
      (n₁ ≡ n₂) × (k₁ ≡ k₂) × (h₁ ≡ h₂) × (o₁ ≡ o₂)

-- ---- which tiles differ, panel/src/differ.rt: of either glass

pub record OneDiffer : Type 0 where
  pub count-tiles :
      (w h : ℕ) (old new counts c₁ c₂ : List ℕ) (n₁ n₂ : ℕ) → TilesCounted w h old new counts c₁ n₁ → TilesCounted w h old new counts c₂ n₂ →
      (n₁ ≡ n₂) × (c₁ ≡ c₂)
  pub next-tile :
      (w h : ℕ) (cs : List ℕ) (from t₁ t₂ x₁ x₂ y₁ y₂ k₁ k₂ n₁ n₂ : ℕ) → NextTileCall w h cs from t₁ x₁ y₁ k₁ n₁ → NextTileCall w h cs from t₂ x₂ y₂ k₂ n₂ →
      (n₁ ≡ n₂) × (t₁ ≡ t₂) × (x₁ ≡ x₂) × (y₁ ≡ y₂) × (k₁ ≡ k₂)

pub record EveryCall : Type 0 where
  pub one : OneCollector
  pub five : OneSettings
  pub eleven : OneShort
  pub twelve : OneCapabilities
  pub filter : OneFilter
  pub differ : OneDiffer
  -- xurbalenz_record_16, by which a program is linked to the record's size
  pub record_16 : (n₁ n₂ : ℕ) → n₁ ≡ 16 → n₂ ≡ 16 → n₁ ≡ n₂
