-- What the report line of a domain asks of the stored retentions, and whose line it is. Assumes nothing.
use Rattle.store.specs.declared.state.Few.{Few}
use Rattle.store.specs.declared.state.Retention.{Retention}
use Rattle.std.specs.Prelude.{ℕ, ◌≤◌, ◌<◌, ◌^◌, ◌≡◌, List, ◌++◌, map, length}
use Rattle.std.proofs.Common.{ap}
use Rattle.text.specs.Ascii.{Bytes}
use Rattle.design.specs.Paths.{retained_path}
use Rattle.texts.specs.Setting.{Setting}
use Rattle.texts.specs.Domains.{lost_paths, powered_line}
use Rattle.store.specs.Strings.{string}
use Rattle.store.specs.View.{Store, domain_of, model_of}
use Rattle.store.specs.Order.{of_retention}
use Rattle.store.specs.declared.state.Domain.{Domain}
use Rattle.store.specs.declared.state.State.{State}
use Rattle.made.specs.Made.{reach_of}
use Rattle.setting.specs.Orders.{Orders, Holds, retentions_hold}
use Rattle.domainlists.specs.Lists.{all_entries, own_entries}
use Rattle.domainlists.specs.Seen.{own_entries_lem, retained_few}
use Rattle.domainline.specs.Lines.{powered_text}

pub record OfReport (files area : Bytes) (t : Few Retention) : Type 0 where
  pub small : length (files ++ area) < 2 ^ 32
  pub holds : Holds (of_retention (reach_of (length files))) (length (files ++ area)) t.n t.all
  pub few : length (all_entries (files ++ area) t) ≤ 1024

-- stored records in order give what is asked
pub orders_report : (files area : Bytes) (nums : List ℕ) (s : State) → Orders files area nums s → OfReport files area s.retentions
orders_report files area nums s o = record { small = o.small; holds = retentions_hold files area nums s o; few = retained_few files area nums s o }

-- the line of a domain of the records
pub report_is : (mem : Bytes) (st : Store) (s : State) (log : Bytes) (t : Setting) (d : Domain) (power ground_net : Bytes) → t.records ≡ model_of mem st s log → powered_text (string mem d.name) (domain_of mem d).elements power ground_net (length (lost_paths t (domain_of mem d))) (map (retained_path t.scope) (own_entries mem s.retentions d.name)) ≡ powered_line t (domain_of mem d) power ground_net
unfolding domain_of
report_is mem st s log t d power ground_net e = ap (powered_text (string mem d.name) (domain_of mem d).elements power ground_net (length (lost_paths t (domain_of mem d)))) (own_entries_lem mem st s log t d e)
