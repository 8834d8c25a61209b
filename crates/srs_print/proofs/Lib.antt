pub mod FrontLemmas
mod Firsts
mod MetTexts
