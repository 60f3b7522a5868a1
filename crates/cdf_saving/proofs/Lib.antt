pub mod SavedLemmas
