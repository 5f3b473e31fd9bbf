-- A command by its number: what it does, by what its name stands for. Assumes nothing.
use Rattle.store.specs.declared.state.Few.{Few}
use Rattle.store.specs.declared.stored.Below.{Below}
use Rattle.store.specs.declared.state.Domain.{Domain}
use Rattle.store.specs.declared.state.Isolation.{Isolation}
use Rattle.store.specs.declared.state.Table.{Table}
use Rattle.std.specs.Prelude.{ℕ, zero, suc, ◌+◌, ◌-◌, ◌≤◌, ◌<◌, ◌≡◌, refl, List, [], ◌++◌, length}
use Rattle.std.proofs.Common.{arith, ap, ◌∙◌}
use Rattle.text.specs.Ascii.{Bytes}
use Rattle.spans.specs.Span.{bytes, pair_at}
use Rattle.args.specs.View.{words_from}
use Rattle.model.specs.Names.{Command as Carried, Named}
use Rattle.model.specs.Numbers.{named_by}
use Rattle.cmdnames.specs.Table.{number_of}
use Rattle.cmdnames.specs.declared.Command.{Command}
use Rattle.cmdnames.specs.declared.Command.TheVariants as command
use Rattle.model.specs.Records.{Model}
use Rattle.model.specs.Commands.{carried_out, unsupported}
use Rattle.store.specs.declared.state.State.{State}
use Rattle.made.specs.declared.Brief.{Brief}
use Rattle.made.specs.declared.Deed.{Deed}
use Rattle.made.specs.declared.Deed.TheVariants as deed
use Rattle.made.specs.Made.{brief_of, Line, Does}
use Rattle.made.specs.Dids.{did_nothing}
use Rattle.made.specs.First.{ready_first}

-- a command that loads no file and moves no scope is carried out; one of no name of the table is passed or remarked
abbrev pub done : Named → Model → Bytes → List Bytes → Model
done Named.load_upf m w ws = m
done Named.set_scope m w ws = m
done (Named.other c) m w ws = carried_out c m w ws
done Named.unknown m w ws = unsupported m w

-- the numbers of these commands, but for `puts` and those whose states are words of the store; behind the last name is no name
pub record Enters (n c : ℕ) : Type 0 where
  pub words : 0 < n
  pub named : c ≤ 30
  pub no_puts : c ≡ 1 → ⊥
  pub no_load : c ≡ 2 → ⊥
  pub no_scope : c ≡ 4 → ⊥
  pub no_switch : c ≡ 21 → ⊥
  pub no_port_state : c ≡ 27 → ⊥

-- what is asked: the words can be stored, and the tables that are looked through have room
pub record Entering (words : List ℕ) (n c : ℕ) (ds : Few Domain) (ns : Few Below) (is : Few Isolation) (ts : Few Table) : Type 0 where
  pub line : Line words n
  pub enters : Enters n c
  pub domains : ds.n ≤ 32
  pub nets : ns.n ≤ 32
  pub isolations : is.n ≤ 32
  pub tables : ts.n ≤ 32

-- what a command is told of the state
pub record Told (b : Brief) (ds : Few Domain) (ns : Few Below) (is : Few Isolation) (ts : Few Table) (s : State) : Type 0 where
  pub brief : brief_of s ≡ b
  pub domains : s.domains ≡ ds
  pub nets : s.nets ≡ ns
  pub isolations : s.isolations ≡ is
  pub tables : s.tables ≡ ts

-- what no other arm takes
pub left_over : (n : ℕ) (c : Command) → Enters n (number_of c) → (c ≡ command.Set → ⊥) → (c ≡ command.SetDesignTop → ⊥) → (c ≡ command.CreatePowerDomain → ⊥) → (c ≡ command.CreateSupplyNet → ⊥) → (c ≡ command.CreateSupplyPort → ⊥) → (c ≡ command.ConnectSupplyNet → ⊥) → (c ≡ command.SetDomainSupplyNet → ⊥) → (c ≡ command.SetIsolation → ⊥) → (c ≡ command.SetIsolationControl → ⊥) → (c ≡ command.SetRetention → ⊥) → (c ≡ command.SetRetentionControl → ⊥) → (c ≡ command.SetLevelShifter → ⊥) → (c ≡ command.CreatePst → ⊥) → (c ≡ command.AddPstState → ⊥) → (c ≡ command.Unknown → ⊥) → (c ≡ command.NotSimulated → ⊥) → ⊥
left_over n command.Set e n0 n3 n5 n6 n7 n8 n9 n22 n23 n24 n25 n26 n28 n29 n30 n10 = n0 refl
left_over n command.Puts e n0 n3 n5 n6 n7 n8 n9 n22 n23 n24 n25 n26 n28 n29 n30 n10 = e.no_puts refl
left_over n command.LoadUpf e n0 n3 n5 n6 n7 n8 n9 n22 n23 n24 n25 n26 n28 n29 n30 n10 = e.no_load refl
left_over n command.SetDesignTop e n0 n3 n5 n6 n7 n8 n9 n22 n23 n24 n25 n26 n28 n29 n30 n10 = n3 refl
left_over n command.SetScope e n0 n3 n5 n6 n7 n8 n9 n22 n23 n24 n25 n26 n28 n29 n30 n10 = e.no_scope refl
left_over n command.CreatePowerDomain e n0 n3 n5 n6 n7 n8 n9 n22 n23 n24 n25 n26 n28 n29 n30 n10 = n5 refl
left_over n command.CreateSupplyNet e n0 n3 n5 n6 n7 n8 n9 n22 n23 n24 n25 n26 n28 n29 n30 n10 = n6 refl
left_over n command.CreateSupplyPort e n0 n3 n5 n6 n7 n8 n9 n22 n23 n24 n25 n26 n28 n29 n30 n10 = n7 refl
left_over n command.ConnectSupplyNet e n0 n3 n5 n6 n7 n8 n9 n22 n23 n24 n25 n26 n28 n29 n30 n10 = n8 refl
left_over n command.SetDomainSupplyNet e n0 n3 n5 n6 n7 n8 n9 n22 n23 n24 n25 n26 n28 n29 n30 n10 = n9 refl
left_over n command.CreatePowerSwitch e n0 n3 n5 n6 n7 n8 n9 n22 n23 n24 n25 n26 n28 n29 n30 n10 = e.no_switch refl
left_over n command.SetIsolation e n0 n3 n5 n6 n7 n8 n9 n22 n23 n24 n25 n26 n28 n29 n30 n10 = n22 refl
left_over n command.SetIsolationControl e n0 n3 n5 n6 n7 n8 n9 n22 n23 n24 n25 n26 n28 n29 n30 n10 = n23 refl
left_over n command.SetRetention e n0 n3 n5 n6 n7 n8 n9 n22 n23 n24 n25 n26 n28 n29 n30 n10 = n24 refl
left_over n command.SetRetentionControl e n0 n3 n5 n6 n7 n8 n9 n22 n23 n24 n25 n26 n28 n29 n30 n10 = n25 refl
left_over n command.SetLevelShifter e n0 n3 n5 n6 n7 n8 n9 n22 n23 n24 n25 n26 n28 n29 n30 n10 = n26 refl
left_over n command.AddPortState e n0 n3 n5 n6 n7 n8 n9 n22 n23 n24 n25 n26 n28 n29 n30 n10 = e.no_port_state refl
left_over n command.CreatePst e n0 n3 n5 n6 n7 n8 n9 n22 n23 n24 n25 n26 n28 n29 n30 n10 = n28 refl
left_over n command.AddPstState e n0 n3 n5 n6 n7 n8 n9 n22 n23 n24 n25 n26 n28 n29 n30 n10 = n29 refl
left_over n command.NotSimulated e n0 n3 n5 n6 n7 n8 n9 n22 n23 n24 n25 n26 n28 n29 n30 n10 = n10 refl
left_over n command.Unknown e n0 n3 n5 n6 n7 n8 n9 n22 n23 n24 n25 n26 n28 n29 n30 n10 = n30 refl

-- ten names are before those that are not simulated, and these are eleven
eleven : (k : ℕ) → k ≤ 10 → named_by (suc (suc (suc (suc (suc (suc (suc (suc (suc (suc k)))))))))) ≡ Named.other Carried.not_simulated
eleven zero h = refl
eleven (suc zero) h = refl
eleven (suc (suc zero)) h = refl
eleven (suc (suc (suc zero))) h = refl
eleven (suc (suc (suc (suc zero)))) h = refl
eleven (suc (suc (suc (suc (suc zero))))) h = refl
eleven (suc (suc (suc (suc (suc (suc zero)))))) h = refl
eleven (suc (suc (suc (suc (suc (suc (suc zero))))))) h = refl
eleven (suc (suc (suc (suc (suc (suc (suc (suc zero)))))))) h = refl
eleven (suc (suc (suc (suc (suc (suc (suc (suc (suc zero))))))))) h = refl
eleven (suc (suc (suc (suc (suc (suc (suc (suc (suc (suc zero)))))))))) h = refl
eleven (suc (suc (suc (suc (suc (suc (suc (suc (suc (suc (suc k))))))))))) h = absurd (omega arith)

parsed : (c : ℕ) → 10 ≤ c → c ≤ 20 → named_by c ≡ Named.other Carried.not_simulated
parsed c h g =
    let e : c ≡ suc (suc (suc (suc (suc (suc (suc (suc (suc (suc (c - 10)))))))))) = omega arith in
    ap named_by e ∙ eleven (c - 10) (omega arith)

module _ (files area : Bytes) (words : List ℕ) (n c : ℕ) where
  abbrev w : Bytes
  w = bytes (files ++ area) (pair_at words 0)

  abbrev ws : List Bytes
  ws = words_from (files ++ area) words n 1

  module _ (K : State → Type 0) (r : Deed) where
    -- one of the names
    pub done_by_lem : (x : Named) (J : State → Type 0) → named_by c ≡ x → ((s : State) → K s → J s) → Does files area words n J r (λ (m : Model). done x m w ws) → Does files area words n K r (λ (m : Model). done (named_by c) m w ws)
    done_by_lem x J e k d = λ s h. rw e (d s (k s h))

    -- of the first word alone
    first_by : (f : Model → Model) → 0 < n → Does files area words 1 (λ (s : State). Unit {0}) r f → Does files area words n K r f
    first_by f h d = λ s k. record { fits = (d s tt).fits; did = λ st log v. (d s tt).did st log (ready_first (length files) (files ++ area) words n st s h v) }

    -- no name of the table
    pub unknown_done : named_by c ≡ Named.unknown → 0 < n → Does files area words 1 (λ (s : State). Unit {0}) r (λ (m : Model). unsupported m w) → Does files area words n K r (λ (m : Model). done (named_by c) m w ws)
    unknown_done e h d = done_by_lem Named.unknown K e (λ s k. k) (first_by (λ (m : Model). unsupported m w) h d)

    -- not simulated
    pub parsed_done : 10 ≤ c → c ≤ 20 → 0 < n → Does files area words 1 (λ (s : State). Unit {0}) r (λ (m : Model). carried_out Carried.not_simulated m w []) → Does files area words n K r (λ (m : Model). done (named_by c) m w ws)
    parsed_done a b h d = done_by_lem (Named.other Carried.not_simulated) K (parsed c a b) (λ s k. k) (first_by (λ (m : Model). carried_out Carried.not_simulated m w []) h d)

  -- set_retention_control leaves the records as they are
  pub nothing_done : (K : State → Type 0) → c ≡ 25 → Does files area words n K deed.Nothing (λ (m : Model). done (named_by c) m w ws)
  nothing_done K e = λ s k. record { fits = tt; did = λ st log v. rw e (did_nothing (length files) (files ++ area) st log s v.shaped v.bounded) }
