-- Words and what they ask for. The definitions compute them.
use Rattle.std.specs.Prelude.{◌≡◌, List, ℕ, [], ◌∷◌, codes, Some, None}
use Rattle.program_words.specs.declared.requests.Request.TheVariants.{Lines, Check, Sessions, Serve, Propose, Demo}
use Rattle.program_words.specs.declared.requests.Mode.TheVariants.{Run, Quotes, Guarded}
use Rattle.program_words.specs.declared.requests.Journal.TheVariants as wrote
use Rattle.program_words.specs.declared.requests.Served.TheVariants as served
use Rattle.program_words.specs.Requests.{request_of}

abbrev pub demo_words : List ℕ → List ℕ → List (List ℕ)
demo_words seed count = codes "demo" ∷ seed ∷ count ∷ []

pub record FormsByHand : Type 0 where
  pub run : request_of (codes "run" ∷ []) ≡ Some (Lines Run)
  pub quotes : request_of (codes "quotes" ∷ []) ≡ Some (Lines Quotes)
  pub guarded : request_of (codes "guarded" ∷ []) ≡ Some (Lines Guarded)
  pub check : request_of (codes "check" ∷ []) ≡ Some (Check wrote.Run)
  pub audit : request_of (codes "audit" ∷ []) ≡ Some (Check wrote.Served)
  pub sessions : request_of (codes "sessions" ∷ []) ≡ Some Sessions
  pub serve : request_of (codes "serve" ∷ []) ≡ Some (Serve served.Lines)
  pub serve_sessions : request_of (codes "serve" ∷ codes "sessions" ∷ []) ≡ Some (Serve served.Sessions)
  pub serve_members : request_of (codes "serve" ∷ codes "members" ∷ []) ≡ Some (Serve served.Members)
  pub propose : request_of (codes "propose" ∷ []) ≡ Some Propose
  pub least : request_of (demo_words (codes "0") (codes "1")) ≡ Some (Demo 0 1)
  pub greatest : request_of (demo_words (codes "4294967295") (codes "10000")) ≡ Some (Demo 4294967295 10000)

pub record OthersByHand : Type 0 where
  pub no_word : request_of [] ≡ None
  pub another_word : request_of (codes "Run" ∷ []) ≡ None
  pub option : request_of (codes "--help" ∷ []) ≡ None
  pub quotes_twice : request_of (codes "quotes" ∷ codes "quotes" ∷ []) ≡ None
  pub guarded_in_capitals : request_of (codes "GUARDED" ∷ []) ≡ None
  pub serve_with_word : request_of (codes "serve" ∷ codes "serve" ∷ []) ≡ None
  pub members_alone : request_of (codes "members" ∷ []) ≡ None
  pub propose_with_word : request_of (codes "propose" ∷ codes "sessions" ∷ []) ≡ None
  pub sessions_with_word : request_of (codes "sessions" ∷ codes "serve" ∷ []) ≡ None
  pub run_with_number : request_of (codes "run" ∷ codes "1" ∷ []) ≡ None
  pub seed_alone : request_of (codes "demo" ∷ codes "1" ∷ []) ≡ None
  pub leading_zero : request_of (demo_words (codes "01") (codes "1")) ≡ None
  pub plus : request_of (demo_words (codes "+1") (codes "1")) ≡ None
  pub space : request_of (demo_words (codes "1") (codes " 1")) ≡ None
  pub minus_zero : request_of (demo_words (codes "-0") (codes "1")) ≡ None
  pub no_digit : request_of (demo_words [] (codes "1")) ≡ None
  pub seed_above : request_of (demo_words (codes "4294967296") (codes "1")) ≡ None
  pub no_order : request_of (demo_words (codes "1") (codes "0")) ≡ None
  pub count_above : request_of (demo_words (codes "1") (codes "10001")) ≡ None
  pub four_words : request_of (codes "demo" ∷ codes "1" ∷ codes "1" ∷ codes "1" ∷ []) ≡ None
