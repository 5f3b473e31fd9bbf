-- Laws: a turn of the loop over a file's commands. Assumes nothing.
use Rattle.std.specs.Prelude.{Option, Some, None, Result, Ok, Err}
use Rattle.substitution.specs.declared.put.Full.{Full}
use Rattle.substitution.specs.Room.{full}
use Rattle.commands.specs.declared.next.Words.{Words}
use Rattle.std.specs.Prelude.{ℕ, zero, suc, ◌+◌, ◌-◌, ◌*◌, ◌≤◌, ◌<◌, ◌^◌, ◌≡◌, List, [], ◌∷◌, ◌++◌, leb, length, take, drop, get_or}
use Rattle.std.proofs.Common.{arith, sym, ap, ◌∙◌, leb-true, get_or-take, drop-drop}
use Rattle.std.proofs.Math.Path.{refl}
use Rattle.text.specs.Ascii.{Bytes}
use Rattle.text.specs.Scan.{all}
use Rattle.text.specs.Sames.{both}
use Rattle.spans.specs.Span.{bytes, strings}
use Rattle.spans.specs.Frame.{known_grows}
use Rattle.jobindex.specs.Index.{path_at}
use Rattle.model.specs.Records.{Model}
use Rattle.model.specs.Within.{Counted}
use Rattle.read.specs.Reading.{Reading, done, refused}
use Rattle.store.specs.View.{model_of}
use Rattle.store.specs.Rows.{store_of}
use Rattle.store.specs.declared.state.State.{State}
use Rattle.scopes.specs.declared.go.Out.{Out}
use Rattle.scopes.specs.declared.go.Stop.TheVariants as stop
use Rattle.scopes.specs.Stops.{tag_of}
use Rattle.held.specs.Grows.{bounded_ends}
use Rattle.held.specs.Held.{mem_of, model_at, counted_of, log_of, Logged, Lends, Held, Lent, Comes, Ran}
use Rattle.held.specs.Laws.{lent_two}
use Rattle.loads.specs.Steps.{load_at, files_in, command_reads, file_reads, Doing}
use Rattle.std.proofs.lemmas.List.{length-map}
use Rattle.spans.specs.Span.{pairs}
use Rattle.spans.specs.Writes.{wrote_kept, wrote_back}
use Rattle.tcl.specs.Words.{Word}
use Rattle.tcl.specs.Commands.{commands, reading}
use Rattle.tcl.specs.Substitution.{Variable, costs}
use Rattle.substitution.specs.Stored.{variables}
use Rattle.jobindex.specs.Index.{body_at, rows}
use Rattle.jobindex.specs.Rows.{files_same}
use Rattle.joined.specs.Joined.{joined_at}
use Rattle.read.specs.Reading.{command, go_on, read_commands}
use Rattle.store.specs.Frame.{variables_same}
use Rattle.held.specs.Laws.{begun_at, begun_held, begun_model}
use Rattle.loads.specs.Steps.{Texts, Opening}
use Rattle.reader.specs.Command.{comes_refused, refused_is, done_is}
use Rattle.commands.specs.Stored.{NextOf}
use Rattle.commands.specs.Reading.{results, first_of}
use Rattle.reader.specs.File.{some_words, none_left, Past, past_left, Found, found_left, past_reads, found_reads, found_few}

-- ---- the index is below the rows
module _ (nums₀ nums : List ℕ) (low : take 1472 nums ≡ take 1472 nums₀) where
  num_same : (i : ℕ) → i < 1472 → get_or nums i 0 ≡ get_or nums₀ i 0
  num_same i h = sym (get_or-take 1472 nums i 0 h) ∙ ap (λ (l : List ℕ). get_or l i 0) low ∙ get_or-take 1472 nums₀ i 0 h

  pub path_same : (job : Bytes) (k : ℕ) → k < 32 → path_at job nums k ≡ path_at job nums₀ k
  unfolding path_at
  path_same job k h = rw (num_same (4 * k) (omega arith), num_same (4 * k + 1) (omega arith))

  pub listed_same : (job : Bytes) (count : ℕ) → count ≤ 32 → files_in job nums count ≡ files_in job nums₀ count
  listed_same job count h = files_same job nums₀ nums count (λ i g. num_same i (omega arith))

  pub texts_same : (job files : Bytes) (count : ℕ) → Texts job files nums₀ count → Texts job files nums count
  unfolding joined_at body_at
  texts_same job files count v =
      record {
        few = v.few;
        texts = λ k h.
            let b : k < 32 = omega (arith, v.few) in
            rw (num_same (1153 + 2 * k) (omega arith), num_same (1152 + 2 * k) (omega arith), num_same (4 * k + 3) (omega arith), num_same (4 * k + 2) (omega arith)) (v.texts k h);
      }

reads_none : (load : Bytes → Counted → Model → Reading) (path : Bytes) (vs : List Variable) (cs : List (List Word)) (n : Counted) (m : Model) → cs ≡ [] → read_commands load path vs cs n m ≡ done n m
unfolding read_commands
reads_none load path vs cs n m e = rw e

reads_first : (load : Bytes → Counted → Model → Reading) (path : Bytes) (vs : List Variable) (cs : List (List Word)) (ws : List Word) (rest : List (List Word)) (n : Counted) (m : Model) → cs ≡ ws ∷ rest
    → read_commands load path vs cs n m ≡ go_on load path (command load path vs ws n m) (read_commands load path vs rest)
unfolding read_commands
reads_first load path vs cs ws rest n m e = rw e

pairs_length : (l : List ℕ) (k n : ℕ) → length (pairs l k n) ≡ n
unfolding pairs
pairs_length l k zero = refl
pairs_length l k (suc n) = ap suc (pairs_length l (k + 1) n)

module _ (job files area₀ nums₀ log₁ : List ℕ) (count k left : ℕ) (s : State) (base len : ℕ) where
  abbrev T : Bytes
  T = take len (drop base files)

  abbrev VS : List Variable
  VS = variables (mem_of files area₀ s) s.variables.all s.variables.n

  abbrev load : Bytes → Counted → Model → Reading
  load = load_at (files_in job nums₀ count) left

  abbrev path : Bytes
  path = path_at job nums₀ k

  abbrev all_reads : Bytes → Reading
  all_reads text = file_reads job files area₀ nums₀ count k left s text

  -- what is left, by what has been written to the log
  pub record Rest (area nums log : List ℕ) (at : ℕ) (u : State) (log₀ text : Bytes) : Type 0 where
    pub written : Bytes
    pub logged : Logged log₀ log u.fill.log written
    pub reads : read_commands load path VS (commands (drop at T)) (counted_of u) (model_at files area nums u written) ≡ all_reads text

  -- the commands before `at` are carried out
  pub record Going (area nums log words : List ℕ) (at : ℕ) (u : State) : Type 0 where
    pub held : Held files area nums 0 u
    pub more : s.fill.end ≤ u.fill.end
    pub lent : Lent s.fill.end area₀ area nums₀ nums
    pub spans : length words ≡ 256
    pub area_long : length area ≡ length area₀
    pub nums_long : length nums ≡ length nums₀
    pub log_long : length log ≡ length log₁
    pub rest : (log₀ text : Bytes) → Logged log₀ log₁ s.fill.log text → Rest area nums log at u log₀ text

  module _ (v : Opening job files area₀ nums₀ count k left s) (eb : base ≡ get_or nums₀ (1152 + 2 * k) 0) (el : len ≡ get_or nums₀ (1153 + 2 * k) 0) where
    text_is : T ≡ joined_at files nums₀ k
    unfolding joined_at
    text_is = rw (eb, el)

    file_is : (text : Bytes) → read_commands load path VS (commands T) (counted_of s) (model_at files area₀ nums₀ s text) ≡ all_reads text
    unfolding file_reads model_of
    file_is text = rw text_is

    pub going_start : (words : List ℕ) → length words ≡ 256 → Going area₀ nums₀ log₁ words 0 s
    going_start words h =
        record {
          held = v.held;
          more = omega arith;
          lent = record { kept = refl; back = refl; low = refl; high = refl };
          spans = h;
          area_long = refl;
          nums_long = refl;
          log_long = refl;
          rest = λ log₀ text g. record { written = text; logged = g; reads = file_is text };
        }

    module _ (area nums log words : List ℕ) (at : ℕ) (u : State) (g : Going area nums log words at u) where
      abbrev o : ℕ
      o = u.fill.end

      abbrev limit : ℕ
      limit = u.fill.end + (16384 - u.count.substituted)

      limit_in : limit ≤ 24576
      limit_in = omega (arith, g.held.end, g.held.substituted, g.held.scopes)

      pub next_asks : (length files + length area < 2 ^ 32) × ((256 ≤ length words) × ((o ≤ limit) × (limit ≤ length area)))
      next_asks = (g.held.lends.small, (omega (arith, g.spans), (omega arith, omega (arith, limit_in, g.held.lends.area_long))))

      abbrev vs : List Variable
      vs = variables (files ++ take o area) s.variables.all s.variables.n

      vars_same : vs ≡ VS
      vars_same =
          variables_same (length files + s.fill.end) (mem_of files area₀ s) (files ++ take o area) (known_grows files area₀ area s.fill.end o g.more g.lent.kept) s.variables.all s.variables.n
          (bounded_ends (length files) (length files + s.fill.end) (store_of nums₀ s) s v.held.bounded).variables

      log_is : (lg : Bytes) (ar nu : List ℕ) (st : State) → (model_at files ar nu st lg).log ≡ lg
      unfolding model_of
      log_is lg ar nu st = refl

      module _ (area' words' : List ℕ) (r : Result (Option Words) Full) (w : NextOf files T at vs area area' o limit words words' r) where
        -- there is no command left
        none_by : NextOf files T at vs area area' o limit words words' (Ok None) → Ran files area₀ area' nums₀ nums log₁ log s (record { stop = None; state = u }) all_reads
        none_by y =
            let e : commands (drop at T) ≡ [] = none_left vs o limit (commands (drop at T)) y.is in
            let ends : (log₀ text : Bytes) (p : Rest area nums log at u log₀ text) → all_reads text ≡ done (counted_of u) (model_at files area nums u p.written) = λ log₀ text p. sym p.reads ∙ reads_none load path VS (commands (drop at T)) (counted_of u) (model_at files area nums u p.written) e in
            record {
              held = λ z. rw y.lent.area g.held;
              more = λ z. g.more;
              lent = rw y.lent.area g.lent;
              reads = λ log₀ text q.
                  let p = g.rest log₀ text q in
                  let l : log_of (all_reads text) ≡ p.written = ap log_of (ends log₀ text p) ∙ log_is p.written area nums u in
                  record { result = rw (l, y.lent.area) (sym (ends log₀ text p)); logged = λ z. rw l p.logged };
            }

        pub turn_none : r ≡ Ok None → Ran files area₀ area' nums₀ nums log₁ log s (record { stop = None; state = u }) all_reads
        turn_none e = none_by (rw e at w)

        -- a reading limit is passed
        past_reads_is : Past vs o limit (commands (drop at T)) → (log₀ text : Bytes) (p : Rest area nums log at u log₀ text) → all_reads text ≡ refused 10 (u.count.commands + 1)
        past_reads_is y log₀ text p =
            sym p.reads
            ∙ reads_first load path VS (commands (drop at T)) y.first y.others (counted_of u) (model_at files area nums u p.written) y.are
            ∙ ap (λ (d : Reading). go_on load path d (read_commands load path VS y.others))
            (past_reads load path VS y.first (model_at files area nums u p.written) u g.held.substituted (rw vars_same at y.over))

        far : drop limit area' ≡ drop limit area → drop 24576 area' ≡ drop 24576 area
        far h =
            let q : limit + (24576 - limit) ≡ 24576 = omega (arith, limit_in) in
            rw q at (sym (drop-drop (24576 - limit) limit area') ∙ ap (drop (24576 - limit)) h ∙ drop-drop (24576 - limit) limit area)

        full_by : NextOf files T at vs area area' o limit words words' (Err full) → (b : State) → b ≡ begun_at u o → Ran files area₀ area' nums₀ nums log₁ log s (record { stop = Some stop.PastLimit; state = b }) all_reads
        full_by y b eb' =
            record {
              held = λ z. absurd (omega (arith, z));
              more = λ z. absurd (omega (arith, z));
              lent = lent_two s.fill.end o area₀ area area' nums₀ nums nums g.more g.lent (record { kept = y.lent.kept; back = far y.lent.back; low = refl; high = refl });
              reads = λ log₀ text q.
                  comes_refused files area' nums log₀ log (record { stop = Some stop.PastLimit; state = b }) (all_reads text) (λ z. absurd (omega (arith, z)))
                  (past_reads_is (past_left vs o limit (commands (drop at T)) y.is) log₀ text (g.rest log₀ text q) ∙ rw eb');
            }

        pub turn_full : r ≡ Err full → (b : State) → b ≡ begun_at u o → Ran files area₀ area' nums₀ nums log₁ log s (record { stop = Some stop.PastLimit; state = b }) all_reads
        turn_full e b eb' = full_by (rw e at w) b eb'

        -- a command is read
        module _ (n next e : ℕ) (er : r ≡ Ok (Some (record { count = n; next = next; end = e }))) where
          y : NextOf files T at vs area area' o limit words words' (Ok (Some (record { count = n; next = next; end = e })))
          y = rw er at w

          found : Found vs o limit (commands (drop at T)) (strings (files ++ take e area') words' 0 n) (commands (drop next T)) e
          found = found_left vs o limit (commands (drop at T)) (strings (files ++ take e area') words' 0 n) (commands (drop next T)) e y.is

          few : u.count.substituted + (e - o) ≤ 16384
          few = found_few load path vs found.first (model_at files area nums u []) u g.held.substituted found.under e found.end

          grows : o ≤ e
          grows = omega (arith, found.end)

          end_in_lem : e ≤ length area
          end_in_lem = omega (arith, few, limit_in, g.held.substituted, g.held.lends.area_long, grows)

          pub begun_asks : (u.count.commands + 1 < 2 ^ 64) × ((o ≤ e) × (u.count.substituted + (e - o) < 2 ^ 64))
          begun_asks = (omega (arith, g.held.commands), (grows, omega (arith, few)))

          kept : take o area' ≡ take o area
          kept = wrote_kept area area' o (results vs (first_of (commands (drop at T)))) e y.lent.wrote end_in_lem

          pub turn_less : length (commands (drop next T)) < length (commands (drop at T))
          turn_less = omega (arith, ap length found.are)

          word_count : length found.first ≡ n
          word_count = sym (length-map found.first _) ∙ sym (ap length found.words) ∙ length-map (pairs words' 0 n) (bytes (files ++ take e area')) ∙ pairs_length words' 0 n

          words_few : length found.first ≤ 128
          words_few = leb-true (length found.first) 128 (both (leb (length found.first) 128) (leb (o + costs vs found.first) limit) found.under).0

          module _ (long : length area' ≡ length area) (b : State) (eb' : b ≡ begun_at u e) where
            lends : Lends files area' nums
            lends = record { files_short = g.held.lends.files_short; area_long = omega (arith, g.held.lends.area_long, long); small = omega (arith, g.held.lends.small, long); nums_long = g.held.lends.nums_long }

            pub turn_doing : Doing job files area' nums words' count n k left b
            turn_doing =
                record {
                  filed = texts_same nums₀ nums g.lent.low job files count v.filed;
                  held = rw eb' (begun_held files area area' nums u e g.held lends grows kept few);
                  worded = rw eb' y.lent.inside;
                  named = omega (arith, some_words (drop at T) found.first (commands (drop next T)) found.are, word_count);
                  few = omega (arith, words_few, word_count);
                  file = v.file;
                  depth = v.depth;
                }

            -- what the command comes to, in the words of the file
            command_is : (lg : Bytes) → command_reads job files area' nums count words' n k left b lg ≡ command load path VS found.first (counted_of u) (model_at files area nums u lg)
            unfolding command_reads
            command_is lg =
                rw (eb', listed_same nums₀ nums g.lent.low job count v.filed.few, path_same nums₀ nums g.lent.low job k (omega (arith, v.file, v.filed.few)), begun_model files area area' nums u e g.held lends grows kept lg, found.words, ← vars_same)
                (sym (found_reads load path vs found.first (model_at files area nums u lg) u g.held.substituted found.under e found.end))

            module _ (area'' nums'' log'' : List ℕ) (d : Out) (c : Ran files area' area'' nums nums'' log log'' b d (command_reads job files area' nums count words' n k left b)) where
              at_end_lem : b.fill.end ≡ e
              at_end_lem = ap (λ (x : State). x.fill.end) eb'

              at_log : b.fill.log ≡ u.fill.log
              at_log = ap (λ (x : State). x.fill.log) eb'

              lent_on : Lent s.fill.end area₀ area'' nums₀ nums''
              lent_on =
                  lent_two s.fill.end o area₀ area area'' nums₀ nums nums'' g.more g.lent
                  (lent_two o e area area' area'' nums nums nums'' grows
                  (record { kept = kept; back = far_on; low = refl; high = refl }) (rw at_end_lem at c.lent))
                where
                  far_on : drop 24576 area' ≡ drop 24576 area
                  far_on =
                      let q : e + (24576 - e) ≡ 24576 = omega (arith, few, limit_in, g.held.substituted, grows) in
                      rw q at (sym (drop-drop (24576 - e) e area') ∙ ap (drop (24576 - e)) (wrote_back area area' o (results vs (first_of (commands (drop at T)))) e y.lent.wrote end_in_lem) ∙ drop-drop (24576 - e) e area)

              goes : (log₀ text : Bytes) (p : Rest area nums log at u log₀ text) → go_on load path (command_reads job files area' nums count words' n k left b p.written) (read_commands load path VS (commands (drop next T))) ≡ all_reads text
              goes log₀ text p =
                  ap (λ (x : Reading). go_on load path x (read_commands load path VS (commands (drop next T)))) (command_is p.written)
                  ∙ sym (reads_first load path VS (commands (drop at T)) found.first (commands (drop next T)) (counted_of u) (model_at files area nums u p.written) found.are)
                  ∙ p.reads

              comes : (log₀ text : Bytes) (p : Rest area nums log at u log₀ text) → Comes files area'' nums'' log₀ log'' d (command_reads job files area' nums count words' n k left b p.written)
              comes log₀ text p = c.reads log₀ p.written (rw at_log p.logged)

              pub turn_failed : (tag_of d.stop ≡ 0 → ⊥) → Ran files area₀ area'' nums₀ nums'' log₁ log'' s d all_reads
              turn_failed z =
                  record {
                    held = λ q. absurd (z q);
                    more = λ q. absurd (z q);
                    lent = lent_on;
                    reads = λ log₀ text q.
                        let p = g.rest log₀ text q in
                        comes_refused files area'' nums'' log₀ log'' d (all_reads text) z
                        (sym (goes log₀ text p) ∙ ap (λ (x : Reading). go_on load path x (read_commands load path VS (commands (drop next T)))) (refused_is files area'' nums'' log₀ log'' d (command_reads job files area' nums count words' n k left b p.written) z (comes log₀ text p)));
                  }

              pub turn_again : tag_of d.stop ≡ 0 → length words' ≡ length words → length area'' ≡ length area' → length nums'' ≡ length nums → length log'' ≡ length log → Going area'' nums'' log'' words' next d.state
              turn_again z lw la ln ll =
                  record {
                    held = c.held z;
                    more = omega (arith, g.more, grows, at_end_lem, c.more z);
                    lent = lent_on;
                    spans = lw ∙ g.spans;
                    area_long = la ∙ long ∙ g.area_long;
                    nums_long = ln ∙ g.nums_long;
                    log_long = ll ∙ g.log_long;
                    rest = λ log₀ text q.
                        let p = g.rest log₀ text q in
                        let x = comes log₀ text p in
                        record {
                          written = log_of (command_reads job files area' nums count words' n k left b p.written);
                          logged = x.logged z;
                          reads = sym (ap (λ (y : Reading). go_on load path y (read_commands load path VS (commands (drop next T)))) (done_is files area'' nums'' log₀ log'' d (command_reads job files area' nums count words' n k left b p.written) z x)) ∙ goes log₀ text p;
                        };
                  }
