use Rattle.std.proofs.Common.{ap, sym, subst, codes, length, map, ◌≡◌, ◌∙◌, true, false, rules}
use Rattle.std.proofs.lemmas.List.{length-map}
use Rattle.std.specs.Borrow.{Bor}
use Rattle.std.specs.Net.Grammar.{IsIpv4Text}
use Rattle.clap.specs.Words.{Text, all_of, first_of, found_of, rows_of}
use Rattle.std.specs.Prelude.{Some}
use Rattle.command_line.specs.Words.{IsCount}
use Rattle.command_line.proofs.Given.{same_flag, same_rest, same_text}
use Rattle.command_line.proofs.words.options_in.Goals as goal

pub returns-in_default-number_given-clause-wrong : goal.returns-in_default-number_given-clause-wrong
returns-in_default-number_given-clause-wrong c = λ _ m a. c.in_default-number_given.ensures m.array a.array

pub returns-in_default-parse-clause-wrong : goal.returns-in_default-parse-clause-wrong
returns-in_default-parse-clause-wrong c = λ _ m a.
    let same : a.host.0 ≡ c.in-Some-text_given.host.now = same_text _ _ (sym a.host.1 ∙ sym c.in-Some-text_given.ensures) in
    c.in_default-parse.ensures.value m.host (subst (λ (text : Text). IsIpv4Text text m.host) same a.host.2)

pub returns-in_default-short_given-clause-wrong : goal.returns-in_default-short_given-clause-wrong
returns-in_default-short_given-clause-wrong c = λ _ m a. c.in_default-short_given.ensures m.port a.port

pub returns-in_default-short_given-2-clause-wrong : goal.returns-in_default-short_given-2-clause-wrong
returns-in_default-short_given-2-clause-wrong c = λ _ m a. c.in_default-short_given-2.ensures m.portals a.portals

pub returns-then-not-are_files-clause-wrong : goal.returns-then-not-are_files-clause-wrong
returns-then-not-are_files-clause-wrong c = λ _ m a.
    let found = rows_of (found_of c.args.matches.now) in
    let texts = map (λ (path : Bor Text). path.now) c.in_ok-paths.paths.items in
    let flag_is : m.is_once ≡ c.is_given-is_once.result =
    same_flag m.is_once c.is_given-is_once.result (first_of (codes "once") found ≡ Some (codes "true")) a.once c.is_given-is_once.ensures in
    let files_are : m.files ≡ texts = same_rest (all_of (codes "paths") found) m.files texts a.rest c.in_ok-paths.ensures in
    let count : length m.files ≡ length c.as_slice.result.now =
    ap length files_are ∙ (length-map c.in_ok-paths.paths.items (λ (path : Bor Text). path.now) ∙ sym (ap length c.as_slice.ensures.value)) in
    let fits : IsCount c.is_given-is_once.result (length c.as_slice.result.now) =
    subst (λ n. IsCount c.is_given-is_once.result n) count (subst (λ b. IsCount b (length m.files)) flag_is a.files) in
    let yes : c.are_files.result ≡ true = c.are_files.ensures.1 fits in
    let no : c.are_files.result ≡ false = search rules in
    let bad : true ≡ false = sym yes ∙ no in
    cc

pub returns-clause-asked : goal.returns-clause-asked
returns-clause-asked c =
    let texts = map (λ (path : Bor Text). path.now) c.in_ok-paths.paths.items in
    let yes : c.are_files.result ≡ true = search rules in
    let count : length c.as_slice.result.now ≡ length texts =
    ap length c.as_slice.ensures.value ∙ sym (length-map c.in_ok-paths.paths.items (λ (path : Bor Text). path.now)) in
    let named : c.is_name.result ≡ true = search rules in
    record {
      once = c.is_given-is_once.ensures;
      target = sym c.in-Some.ensures;
      name = c.is_name.ensures.0 named;
      array = c.in-Some-number_given.ensures;
      host = (c.in-Some-text_given.host.now, sym c.in-Some-text_given.ensures, c.in-Ok.ensures.value);
      port = c.in-Some-short_given.ensures;
      portals = c.in-Some-short_given-2.ensures;
      rest = c.in_ok-paths.ensures;
      files = subst (λ n. IsCount c.is_given-is_once.result n) count (c.are_files.ensures.0 yes);
    }
