-- Laws: a variable more; and every state in order is within the limits of records. Assumes nothing.
use Prim.Native.Nat.{ℕ, zero, suc, ◌+◌, ◌*◌, ◌≤◌, ◌<◌}
use Rattle.std.proofs.Common.{arith, zero-add, add-one, sym, ◌∙◌, inl, length-set, length-take, length-append, get_or-set_same, length-take-le, le-leb}
use Rattle.std.specs.Prelude.{◌≡◌, true, List, [], ◌∷◌, ◌++◌, leb, length, get_or, set, take, drop}
use Rattle.std.proofs.Math.Path.{refl, ap}
use Rattle.std.proofs.lemmas.List.{length-map}
use Rattle.text.specs.Ascii.{Bytes}
use Rattle.spans.specs.Span.{bytes, pair_at, pairs}
use Rattle.spans.specs.Frame.{pairs_same, pairs_last}
use Rattle.substitution.specs.Stored.{variable_at, variables}
use Rattle.model.specs.Records.{with_variables as with_variablesʳ}
use Rattle.store.specs.Strings.{string, span_of, below_of}
use Rattle.store.specs.View.{Store, domain_of, port_of, switch_of, isolation_of, retention_of, shifter_of, port_state_of, table_of, warning_text, warnings_in, model_of}
use Rattle.store.specs.Order.{Within, of_span, Shaped, Bounded}
use Rattle.store.specs.Added.{variable_added}
use Rattle.store.specs.Tables.{sized_length, numbered_length, within_snoc}
use Rattle.store.specs.Fits.{Fits}
use Rattle.store.specs.declared.stored.Stored.{Stored}
use Rattle.store.specs.declared.state.State.{State}
use Rattle.store.specs.Rows.{elsewhere}

-- the numbers with a variable more
abbrev pub variable_put : List ℕ → ℕ → Stored → Stored → List ℕ
variable_put l n a b = set (set (set (set l (4 * n) a.at) (4 * n + 1) a.len) (4 * n + 2) b.at) (4 * n + 3) b.len

module _ (l : List ℕ) (n : ℕ) (a b : Stored) where
  put_before : (i : ℕ) → i < 4 * n → get_or (variable_put l n a b) i 0 ≡ get_or l i 0
  put_before i h =
      elsewhere (set (set (set l (4 * n) a.at) (4 * n + 1) a.len) (4 * n + 2) b.at) (4 * n + 3) b.len i (inl (omega arith))
      ∙ elsewhere (set (set l (4 * n) a.at) (4 * n + 1) a.len) (4 * n + 2) b.at i (inl (omega arith))
      ∙ elsewhere (set l (4 * n) a.at) (4 * n + 1) a.len i (inl (omega arith))
      ∙ elsewhere l (4 * n) a.at i (inl h)

  module _ (h : 4 * n + 3 < length l) where
    put_0 : get_or (variable_put l n a b) (4 * n) 0 ≡ a.at
    put_0 =
        elsewhere (set (set (set l (4 * n) a.at) (4 * n + 1) a.len) (4 * n + 2) b.at) (4 * n + 3) b.len (4 * n) (inl (omega arith))
        ∙ elsewhere (set (set l (4 * n) a.at) (4 * n + 1) a.len) (4 * n + 2) b.at (4 * n) (inl (omega arith))
        ∙ elsewhere (set l (4 * n) a.at) (4 * n + 1) a.len (4 * n) (inl (omega arith))
        ∙ get_or-set_same l (4 * n) a.at 0 (omega arith)

    put_1 : get_or (variable_put l n a b) (4 * n + 1) 0 ≡ a.len
    put_1 =
        elsewhere (set (set (set l (4 * n) a.at) (4 * n + 1) a.len) (4 * n + 2) b.at) (4 * n + 3) b.len (4 * n + 1) (inl (omega arith))
        ∙ elsewhere (set (set l (4 * n) a.at) (4 * n + 1) a.len) (4 * n + 2) b.at (4 * n + 1) (inl (omega arith))
        ∙ get_or-set_same (set l (4 * n) a.at) (4 * n + 1) a.len 0 (simp length-set (omega arith))

    put_2 : get_or (variable_put l n a b) (4 * n + 2) 0 ≡ b.at
    put_2 =
        elsewhere (set (set (set l (4 * n) a.at) (4 * n + 1) a.len) (4 * n + 2) b.at) (4 * n + 3) b.len (4 * n + 2) (inl (omega arith))
        ∙ get_or-set_same (set (set l (4 * n) a.at) (4 * n + 1) a.len) (4 * n + 2) b.at 0 (simp length-set (omega arith))

    put_3 : get_or (variable_put l n a b) (4 * n + 3) 0 ≡ b.len
    put_3 = get_or-set_same (set (set (set l (4 * n) a.at) (4 * n + 1) a.len) (4 * n + 2) b.at) (4 * n + 3) b.len 0 (simp length-set h)

    name_is : pair_at (variable_put l n a b) (2 * n) ≡ span_of a
    name_is =
        let p : 2 * (2 * n) ≡ 4 * n = omega arith in
        let q : 2 * (2 * n) + 1 ≡ 4 * n + 1 = omega arith in
        λ i. record { at = (ap (λ (k : ℕ). get_or (variable_put l n a b) k 0) p ∙ put_0) i; len = (ap (λ (k : ℕ). get_or (variable_put l n a b) k 0) q ∙ put_1) i }

    value_is : pair_at (variable_put l n a b) (2 * n + 1) ≡ span_of b
    value_is =
        let p : 2 * (2 * n + 1) ≡ 4 * n + 2 = omega arith in
        let q : 2 * (2 * n + 1) + 1 ≡ 4 * n + 3 = omega arith in
        λ i. record { at = (ap (λ (k : ℕ). get_or (variable_put l n a b) k 0) p ∙ put_2) i; len = (ap (λ (k : ℕ). get_or (variable_put l n a b) k 0) q ∙ put_3) i }

    pairs_front : pairs (variable_put l n a b) 0 (2 * n) ≡ pairs l 0 (2 * n)
    pairs_front = pairs_same l (variable_put l n a b) 0 (2 * n) (λ i q k. put_before i (omega arith))

    pub pairs_more : pairs (variable_put l n a b) 0 (2 * (n + 1)) ≡ (pairs l 0 (2 * n) ++ (span_of a ∷ [])) ++ (span_of b ∷ [])
    pairs_more =
        let p : 2 * (n + 1) ≡ 2 * n + 1 + 1 = omega arith in
        ap (pairs (variable_put l n a b) 0) p
        ∙ pairs_last (variable_put l n a b) 0 (2 * n + 1)
        ∙ rw (zero-add, value_is, pairs_last (variable_put l n a b) 0 (2 * n), zero-add, name_is, pairs_front)

  kept_by_lem : (mem : Bytes) (k : ℕ) → k ≤ n → variables mem (variable_put l n a b) k ≡ variables mem l k
  unfolding variables
  kept_by_lem mem zero h = refl
  kept_by_lem mem (suc k) h =
      let p : pair_at (variable_put l n a b) (2 * k) ≡ pair_at l (2 * k) = λ i. record { at = put_before (2 * (2 * k)) (omega arith) i; len = put_before (2 * (2 * k) + 1) (omega arith) i } in
      let q : pair_at (variable_put l n a b) (2 * k + 1) ≡ pair_at l (2 * k + 1) = λ i. record { at = put_before (2 * (2 * k + 1)) (omega arith) i; len = put_before (2 * (2 * k + 1) + 1) (omega arith) i } in
      λ i. kept_by_lem mem k (omega arith) i ++ (record { name = bytes mem (p i); value = bytes mem (q i) } ∷ [])

  pub variables_more : (mem : Bytes) → 4 * n + 3 < length l → variables mem (variable_put l n a b) (n + 1) ≡ variables mem l n ++ (record { name = string mem a; value = string mem b } ∷ [])
  unfolding variables
  variables_more mem h =
      ap (variables mem (variable_put l n a b)) (add-one n)
      ∙ (λ i. kept_by_lem mem n (omega arith) i ++ (record { name = bytes mem (name_is h i); value = bytes mem (value_is h i) } ∷ []))

-- ---- the state
module _ (st : Store) (s : State) (a b : Stored) where
  pub variable_view : (mem log : Bytes) → 4 * s.variables.n + 3 < length s.variables.all → model_of mem st (variable_added s a b) log ≡ with_variablesʳ (model_of mem st s log) ((model_of mem st s log).variables ++ (record { name = string mem a; value = string mem b } ∷ []))
  unfolding model_of
  variable_view mem log h = ap (with_variablesʳ (model_of mem st s log)) (variables_more s.variables.all s.variables.n a b mem h)

  pub variable_shaped : Shaped st s → s.variables.n < 64 → Shaped st (variable_added s a b)
  variable_shaped v h = record { scope = v.scope; domains = v.domains; nets = v.nets; ports = v.ports; switches = v.switches; isolations = v.isolations; retentions = v.retentions; shifters = v.shifters; portstates = v.portstates; tables = v.tables; long = simp length-set v.long; variables = omega arith; switch_words = v.switch_words; port_words = v.port_words; row_tables = v.row_tables; rows = v.rows; words = v.words; warnings = v.warnings; warned = v.warned }

  pub variable_bounded : (e : Stored → ℕ) (n : ℕ) → Bounded e n st s → 4 * s.variables.n + 3 < length s.variables.all → e a ≤ n → e b ≤ n → Bounded e n st (variable_added s a b)
  variable_bounded e n v h p q =
      let w : Within (of_span e) n (pairs (variable_put s.variables.all s.variables.n a b) 0 (2 * (s.variables.n + 1))) = rw (pairs_more s.variables.all s.variables.n a b h) (within_snoc (of_span e) (span_of b) (within_snoc (of_span e) (span_of a) v.variables p) q) in
      record { scope = v.scope; top = v.top; domains = v.domains; nets = v.nets; ports = v.ports; switches = v.switches; isolations = v.isolations; retentions = v.retentions; shifters = v.shifters; portstates = v.portstates; tables = v.tables; variables = w; rows = v.rows; words = v.words }

-- ---- the limits of records
pub variables_length : (mem : Bytes) (l : List ℕ) (n : ℕ) → length (variables mem l n) ≡ n
unfolding variables
variables_length mem l zero = refl
variables_length mem l (suc n) = length-append (variables mem l n) (variable_at mem l n ∷ []) ∙ rw (variables_length mem l n) (add-one n)

few : (a b c : ℕ) → a ≡ b → b ≤ c → leb a c ≡ true
few a b c e h = rw e (le-leb b c h)

pub now_fits : (mem : Bytes) (st : Store) (s : State) (log : Bytes) → Shaped st s → Fits (model_of mem st s log)
unfolding model_of bytes
now_fits mem st s log v =
    record {
      domains = few _ s.domains.n 32 (sized_length (domain_of mem) v.domains) v.domains.count;
      nets = few _ s.nets.n 32 (sized_length (below_of mem) v.nets) v.nets.count;
      ports = few _ s.ports.n 32 (sized_length (port_of mem) v.ports) v.ports.count;
      switches = few _ s.switches.n 32 (sized_length (switch_of mem st.words) v.switches) v.switches.count;
      isolations = few _ s.isolations.n 32 (sized_length (isolation_of mem) v.isolations) v.isolations.count;
      retentions = few _ s.retentions.n 32 (sized_length (retention_of mem) v.retentions) v.retentions.count;
      shifters = few _ s.shifters.n 32 (sized_length (shifter_of mem) v.shifters) v.shifters.count;
      port_states = few _ s.portstates.n 32 (sized_length (port_state_of mem st.words) v.portstates) v.portstates.count;
      tables = few _ s.tables.n 32 (numbered_length (table_of mem st.rows) 0 (take s.tables.n s.tables.all) ∙ length-take-le s.tables.n s.tables.all (omega (arith, v.tables.long, v.tables.count))) v.tables.count;
      variables = few _ s.variables.n 64 (variables_length mem s.variables.all s.variables.n) v.variables;
      warnings = few _ s.fill.warnings 256 (length-map (warnings_in st.rows) (warning_text mem) ∙ sym v.warnings) v.warned;
      scope = le-leb (length (take s.head.scope.len (drop s.head.scope.at mem))) 512 (rw length-take (omega (arith, v.scope)));
    }
