-- What isolation asks of the stored strategies and domains, and what it leaves by the definitions. Assumes nothing.
use Rattle.store.specs.declared.state.Few.{Few}
use Rattle.std.specs.Prelude.{ℕ, ◌+◌, ◌≤◌, ◌<◌, ◌^◌, min, ◌≡◌, Bool, true, false, cond, List, ◌++◌, map, length, take}
use Rattle.text.specs.Ascii.{Bytes}
use Rattle.out.specs.Emit.{Out, ◌▸◌, emit}
use Rattle.out.specs.Items.{each}
use Rattle.store.specs.View.{domain_of, isolation_of}
use Rattle.store.specs.Order.{Within, of_domain, of_isolation}
use Rattle.store.specs.declared.state.Domain.{Domain}
use Rattle.store.specs.declared.state.Isolation.{Isolation}
use Rattle.made.specs.Made.{reach_of}
use Rattle.setting.specs.Orders.{Holds}
use Rattle.texts.specs.Setting.{Setting}
use Rattle.texts.specs.Isolation as texts
use Rattle.texts.specs.Texts.{warning_line}
use Rattle.isolated.specs.Table.{kept_in}
use Rattle.alike.specs.Strategies.{strategy_at}
use Rattle.alike.specs.Shown.{shown}
use Rattle.alike.specs.Ruled.{Ruled}
use Rattle.keep.specs.declared.Cover.{Cover}

-- what is asked: the scope's module is row k of `count`
pub record OfIsolation (job files area : Bytes) (count k : ℕ) (t : Few Isolation) (xs : Few Domain) : Type 0 where
  pub few : count ≤ 128
  pub row : k < count
  pub job_small : length job < 2 ^ 32
  pub small : length files + length area < 2 ^ 31
  pub strategies : Holds (of_isolation (reach_of (length files))) (length (files ++ area)) t.n t.all
  pub domains : Holds (of_domain (reach_of (length files))) (length (files ++ area)) xs.n xs.all
  pub own_few : Within (λ (x : Isolation). length (isolation_of (files ++ area) x).elements) 64 (take t.n t.all)
  pub domains_few : Within (λ (d : Domain). length (domain_of (files ++ area) d).elements) 65 (take xs.n xs.all)

-- nothing isolated yet; the text goes on at `at`
abbrev pub start_at : ℕ → Cover
start_at at = record { over = false; ports = 0; warnings = 0; at = at }

-- ---- what it leaves, for a setting: the isolated ports, the lines or the warnings; or more ports than are allowed
pub record Isolated (t : Setting) (job mem : Bytes) (xs : Few Isolation) (warn : Bool) (o : Out) (out : Bytes) (ports : List ℕ) (r : Cover) : Type 0 where
  pub over : r.over ≡ true → 256 < length (texts.isolation t).ports
  pub few : r.over ≡ false → length (texts.isolation t).ports ≤ 256
  pub ports_are : r.over ≡ false → map (shown t.scope t.top (strategy_at mem xs)) (kept_in job mem ports r.ports) ≡ (texts.isolation t).ports
  pub ruled : r.over ≡ false → Ruled mem xs ports r.ports
  pub count : r.over ≡ false → r.warnings ≡ min (length (texts.isolation t).warnings) 513
  pub text : r.over ≡ false → out ▸ r.at ≡ emit o (cond warn (each warning_line (texts.isolation t).warnings) (texts.isolation t).report)
