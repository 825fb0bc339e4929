-- From a state to the live state's 128 bytes: what is asked, and what each part writes.
pub mod Packing
